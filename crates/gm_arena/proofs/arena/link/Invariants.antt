use Rattle.std.proofs.Common.{◌≡◌, drop, length}
use Rattle.std.specs.List.{zip}
use Rattle.gm_arena.specs.inner.Inside.{linked}
use Rattle.gm_arena.proofs.arena.link.Given as goal

-- with those that are left it comes to the same
abbrev pub invariant-loop-at : goal.invariant-loop-at
invariant-loop-at l = record {
  items : linked l.labels l.label (zip (drop l.at l.from) (drop l.at l.to)) l.neighbours ≡ linked l.labels l.label (zip l.from l.to) l.fn.neighbours;
  long : length l.neighbours ≡ length l.fn.neighbours;
}
