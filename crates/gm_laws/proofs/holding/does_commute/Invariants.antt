use Rattle.std.proofs.Common.{◌≡◌, ℕ, ◌+◌, ◌<◌, ◌≤◌, IsTrue, slice_index_or}
use Rattle.gm_arena.specs.declared.slot.Slot.{Slot}
use Rattle.gm_arena.specs.inner.ArenaMap.{name_at, alpha}
use Rattle.gm_laws.proofs.holding.does_commute.Given as goal

abbrev pub invariant-loop-above : goal.invariant-loop-above
invariant-loop-above g l = record {
  meet : IsTrue l.meet → (j : ℕ) → l.label + 2 ≤ j → j < l.above → (other : Slot) → name_at l.arena (slice_index_or l.across j other).at ≡ alpha l.arena l.label (name_at l.arena (slice_index_or l.alphas j other).at);
  from : l.label + 2 ≤ l.above;
  upto : l.label + 2 < l.above → l.above ≤ l.arena.schema.dim + 1;
  cost : l.steps + (l.label + 2) ≤ l.fn.steps + l.above;
  least : l.fn.steps ≤ l.steps;
}
