use Rattle.std.proofs.Common.{ℕ, ◌+◌, ◌*◌, ◌<◌, ◌≤◌, get_or}
use Rattle.gm_laws.specs.inner.Darts.{IsBack}
use Rattle.gm_laws.proofs.involution.first_not_back.Given as goal

abbrev pub invariant-loop-name : goal.invariant-loop-name
invariant-loop-name g l = record {
  back : (p : ℕ) → p < l.name-index → IsBack l.arena (get_or l.names p 0);
  cost : l.steps ≤ l.fn.steps + (2 * (l.arena.schema.dim + 1) + 1) * l.name-index;
  least : l.fn.steps ≤ l.steps;
}
