use Rattle.std.proofs.Common.{◌≡◌, ℕ, ◌<◌, length, get_or, take}
use Rattle.gm_model.specs.declared.step.Step.TheVariants.{Absent}
use Rattle.gm_model.specs.inner.NodeSteps.{step_or, letter_step}
use Rattle.gm_model.proofs.sides.add_letters.Given as goal

abbrev pub invariant-loop-place : goal.invariant-loop-place
invariant-loop-place l = record {
  len : length l.steps ≡ 8;
  same : (i : ℕ) → i < 8 → get_or l.steps i Absent ≡ step_or (get_or l.fn.steps i Absent) (letter_step (take l.place l.word) i);
}
