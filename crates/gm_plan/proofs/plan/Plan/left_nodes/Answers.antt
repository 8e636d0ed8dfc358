use Rattle.std.proofs.Common.{subst}
use Rattle.gm_model.specs.Rules.{rule_of}
use Rattle.gm_plan.specs.inner.Plans.{PlanOf, IsLeftCount}
use Rattle.gm_plan.proofs.LeftNodes.{left_most}
use Rattle.gm_plan.proofs.plan.Plan.left_nodes.Goals as goal

pub returns-clause-most : goal.returns-clause-most
returns-clause-most c = rw (← c.self.view_is) (left_most (rule_of c.self.inside.rule.now) _ c.self.invariant.are_counts.left_is)

pub returns-clause-left : goal.returns-clause-left
returns-clause-left c = subst (λ (plan : PlanOf). IsLeftCount (rule_of plan.table) c.self.inside.left_nodes) c.self.view_is c.self.invariant.are_counts.left_is
