use Rattle.std.proofs.Common.{◌≡◌, ℕ, ◌<◌, Some}
use Rattle.std.specs.List.{Contains}
use Rattle.gm_arena.specs.declared.slot.Slot.{Slot}
use Rattle.gm_plan.specs.inner.Placed.{slot_at}
use Rattle.gm_eval.proofs.reader.Reader.is_walked.Given as goal

abbrev pub invariant-loop-position : goal.invariant-loop-position
invariant-loop-position l = record {
  all : (p : ℕ) → p < l.position → (slot : Slot) × (slot_at l.self.found.now l.node p ≡ Some slot) × Contains l.scratch.walked slot;
}
