use Rattle.std.proofs.Common.{ℕ, ◌+◌, ◌*◌, ◌<◌, ◌≤◌}
use Rattle.gm_arena.specs.inner.ArenaMap.{name_at}
use Rattle.gm_laws.specs.inner.Darts.{CommutesWith}
use Rattle.gm_laws.proofs.commuting.labels_not_commuting.Given as goal

abbrev pub invariant-loop-i : goal.invariant-loop-i
invariant-loop-i g l = record {
  commute : (i : ℕ) → i < l.i → CommutesWith l.arena (name_at l.arena l.slot.at) i;
  cost : l.steps ≤ l.fn.steps + l.i * (3 * (l.arena.schema.dim + 1) + 1);
  least : l.fn.steps ≤ l.steps;
}
