use Rattle.std.proofs.Common.{ℕ, ◌+◌, ◌*◌, ◌<◌, ◌≤◌, IsTrue}
use Rattle.gm_arena.specs.inner.ArenaMap.{name_at}
use Rattle.gm_model.specs.Labels.{has}
use Rattle.gm_laws.specs.inner.Darts.{HasSame}
use Rattle.gm_laws.proofs.embedded.label_not_alike.Given as goal

abbrev pub invariant-loop-label : goal.invariant-loop-label
invariant-loop-label g l = record {
  same : (i : ℕ) → i < l.label → IsTrue (has l.mask i) → HasSame l.arena l.embed (name_at l.arena l.slot.at) i;
  cost : l.steps ≤ l.fn.steps + 1 + 2 * l.label;
  least : l.fn.steps ≤ l.steps;
}
