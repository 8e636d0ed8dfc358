use Rattle.std.proofs.Common.{ℕ, ◌+◌, ◌*◌, ◌<◌, ◌≤◌, get_or}
use Rattle.gm_laws.specs.inner.Darts.{IsAlike}
use Rattle.gm_laws.proofs.embedded.first_not_alike.Given as goal

abbrev pub invariant-loop-name : goal.invariant-loop-name
invariant-loop-name g l = record {
  alike : (p : ℕ) → p < l.name-index → IsAlike l.arena l.embed l.mask (get_or l.names p 0);
  cost : l.steps ≤ l.fn.steps + (2 * (l.arena.schema.dim + 1) + 2) * l.name-index;
  least : l.fn.steps ≤ l.steps;
}
