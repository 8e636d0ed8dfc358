use Rattle.std.proofs.Common.{◌≡◌, ℕ, ◌<◌, true, slice_index_or}
use Rattle.gm_model.specs.declared.step.Step.TheVariants.{Absent, Imp}
use Rattle.gm_model.specs.Labels.{has}
use Rattle.gm_plan.proofs.sources.turns_at.Given as goal

abbrev pub invariant-loop-label : goal.invariant-loop-label
invariant-loop-label l = (i : ℕ) → i < l.label → has l.labels i ≡ true → (m : ℕ) × (slice_index_or l.steps i Absent ≡ Imp m)
