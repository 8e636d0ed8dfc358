use Rattle.std.proofs.Common.{◌≡◌, length, take}
use Rattle.gm_arena.proofs.arena.overwrite.Given as goal

-- the values so far stand there
abbrev pub invariant-loop-at : goal.invariant-loop-at
invariant-loop-at l = record {
  items : take l.at l.part ≡ take l.at l.values;
  long : length l.part ≡ length l.fn.part;
}
