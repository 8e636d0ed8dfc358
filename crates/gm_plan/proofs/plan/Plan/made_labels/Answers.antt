use Rattle.std.proofs.Common.{subst}
use Rattle.gm_model.specs.Rules.{rule_of}
use Rattle.gm_plan.specs.inner.Changes.{AreMadeLabels}
use Rattle.gm_plan.specs.inner.Plans.{PlanOf}
use Rattle.gm_plan.proofs.plan.Plan.made_labels.Goals as goal

pub returns : goal.returns
returns c = subst (λ (plan : PlanOf). AreMadeLabels (rule_of plan.table) c.self.inside.made_labels) c.self.view_is c.self.invariant.are_made
