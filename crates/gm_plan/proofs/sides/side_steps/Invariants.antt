use Rattle.gm_model.specs.Rules.{rule_of}
use Rattle.gm_plan.specs.inner.Plans.{AreSteps}
use Rattle.gm_plan.proofs.sides.side_steps.Given as goal

abbrev pub invariant-loop-node : goal.invariant-loop-node
invariant-loop-node l = AreSteps (rule_of l.rule) l.side l.node l.rows.items
