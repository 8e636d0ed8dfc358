use Rattle.std.proofs.Common.{arith}
use Rattle.gm_model.specs.Rules.{rule_of}
use Rattle.gm_plan.proofs.Hooks.{few_hooks}
use Rattle.gm_plan.proofs.plan.Plan.hooks.Goals as goal

pub overflow_cast-result : goal.overflow_cast-result
overflow_cast-result c = rw c.as_slice.ensures (omega (arith, few_hooks _ (rule_of c.self.inside.rule.now) c.self.invariant.planned, c.self.invariant.planned.within.nodes))
