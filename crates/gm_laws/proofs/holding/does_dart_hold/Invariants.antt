use Rattle.std.proofs.Common.{ℕ, ◌+◌, ◌*◌, ◌<◌, ◌≤◌, IsTrue}
use Rattle.gm_arena.specs.inner.ArenaMap.{name_at}
use Rattle.gm_laws.specs.inner.Holding.{Holds}
use Rattle.gm_laws.proofs.holding.does_dart_hold.Given as goal

abbrev pub invariant-loop-label : goal.invariant-loop-label
invariant-loop-label g l = record {
  holds : IsTrue l.hold → (i : ℕ) → i < l.label → Holds l.arena l.slot.at (name_at l.arena l.slot.at) i;
  cost : l.steps ≤ l.fn.steps + 1 + l.label * (l.arena.schema.dim + 1);
  least : l.fn.steps ≤ l.steps;
}
