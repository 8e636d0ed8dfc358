use Rattle.std.proofs.Common.{◌≡◌, ℕ, ◌<◌}
use Rattle.gm_model.specs.declared.step.Step.TheVariants.{Absent}
use Rattle.gm_model.specs.Rules.{rule_of}
use Rattle.gm_plan.specs.inner.Changes.{made_step}
use Rattle.gm_plan.proofs.changes.makes_none.Given as goal

abbrev pub invariant-loop-node : goal.invariant-loop-node
invariant-loop-node l = (x : ℕ) → x < l.node → made_step (rule_of l.rule) x l.label ≡ Absent
