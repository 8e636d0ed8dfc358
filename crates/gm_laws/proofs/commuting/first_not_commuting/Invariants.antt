use Rattle.std.proofs.Common.{ℕ, ◌+◌, ◌*◌, ◌<◌, ◌≤◌, get_or}
use Rattle.gm_laws.specs.inner.Darts.{Commutes}
use Rattle.gm_laws.proofs.commuting.first_not_commuting.Given as goal

abbrev pub invariant-loop-name : goal.invariant-loop-name
invariant-loop-name g l = record {
  commute : (p : ℕ) → p < l.name-index → Commutes l.arena (get_or l.names p 0);
  cost : let labels = l.arena.schema.dim + 1 in l.steps ≤ l.fn.steps + (labels * (3 * labels + 1) + 1) * l.name-index;
  least : l.fn.steps ≤ l.steps;
}
