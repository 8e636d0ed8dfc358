use Rattle.std.proofs.Common.{◌≡◌, ℕ, ◌<◌, [], length, get_or, take}
use Rattle.gm_model.specs.declared.step.Step.TheVariants.{Absent}
use Rattle.gm_model.specs.Rules.{step_in}
use Rattle.gm_model.proofs.sides.link_steps.Given as goal

abbrev pub invariant-loop-link : goal.invariant-loop-link
invariant-loop-link l = record {
  len : length l.steps ≡ 8;
  same : (i : ℕ) → i < 8 → get_or l.steps i Absent ≡ step_in (take l.link-index l.links) [] l.node i;
}
