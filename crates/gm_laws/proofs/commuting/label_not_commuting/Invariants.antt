use Rattle.std.proofs.Common.{ℕ, ◌+◌, ◌*◌, ◌<◌, ◌≤◌}
use Rattle.gm_arena.specs.inner.ArenaMap.{name_at}
use Rattle.gm_laws.specs.inner.Darts.{Commute}
use Rattle.gm_laws.proofs.commuting.label_not_commuting.Given as goal

abbrev pub invariant-loop-j : goal.invariant-loop-j
invariant-loop-j g l = record {
  commute : (j : ℕ) → l.i + 2 ≤ j → j < l.j → Commute l.arena (name_at l.arena l.slot.at) l.i j;
  from : l.i + 2 ≤ l.j;
  upto : l.i + 2 < l.j → l.j ≤ l.arena.schema.dim + 1;
  cost : l.steps + 3 * (l.i + 2) ≤ l.fn.steps + 1 + 3 * l.j;
  least : l.fn.steps ≤ l.steps;
}
