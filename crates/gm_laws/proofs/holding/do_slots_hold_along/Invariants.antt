use Rattle.std.proofs.Common.{ℕ, ◌+◌, ◌*◌, ◌<◌, ◌≤◌, IsTrue}
use Rattle.gm_arena.specs.inner.ArenaMap.{name_at}
use Rattle.gm_laws.specs.inner.Darts.{IsLabel}
use Rattle.gm_laws.specs.inner.Holding.{Holds}
use Rattle.gm_laws.proofs.holding.do_slots_hold_along.Given as goal

abbrev pub invariant-loop-at : goal.invariant-loop-at
invariant-loop-at g l = record {
  holds : IsTrue l.hold → (at : ℕ) → at < l.at → (i : ℕ) → IsLabel l.arena i → Holds l.arena at (name_at l.arena at) i;
  cost : let labels = l.arena.schema.dim + 1 in l.steps ≤ l.fn.steps + (labels * labels + 1) * l.at;
  least : l.fn.steps ≤ l.steps;
}
