use Rattle.std.proofs.Common.{◌≤◌, ◌≡◌, ℕ, ◌+◌, ◌*◌, ◌<◌}
use Rattle.gm_arena.specs.inner.ArenaMap.{name_at}
use Rattle.gm_laws.specs.inner.Darts.{LeadsBack}
use Rattle.gm_laws.proofs.involution.label_not_back.Given as goal

abbrev pub invariant-loop-label : goal.invariant-loop-label
invariant-loop-label g l = record {
  back : (i : ℕ) → i < l.label → LeadsBack l.arena (name_at l.arena l.slot.at) i;
  cost : l.steps ≡ l.fn.steps + 2 * l.label;
  least : l.fn.steps ≤ l.steps;
}
