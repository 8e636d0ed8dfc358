use Rattle.std.proofs.Common.{◌≡◌, ◌≤◌, ◌++◌, map, take, vec_capacity}
use Rattle.gm_arena.specs.inner.Inside.{slot_numbered}
use Rattle.gm_arena.proofs.arena.put_slots.Given as goal

-- the slots so far stand behind those before them
abbrev pub invariant-loop-at : goal.invariant-loop-at
invariant-loop-at l = record {
  items : l.slots.items ≡ l.fn.slots.items ++ map slot_numbered (take l.at-index l.numbers);
  capacity : vec_capacity l.fn.slots ≤ vec_capacity l.slots;
}
