use Rattle.std.proofs.Common.{ℕ, ◌<◌, length, sym, subst, ◌∙◌}
use Rattle.gm_model.specs.Rules.{rule_of}
use Rattle.gm_plan.specs.inner.Plans.{PlanOf}
use Rattle.gm_plan.specs.inner.Tested.{IsForcedStep}
use Rattle.gm_plan.proofs.Forced.{all_forced}
use Rattle.gm_plan.proofs.plan.Plan.needs_test.Goals as goal

pub returns : goal.returns
returns c =
    let within = subst (λ (plan : PlanOf). c.args.node < length (rule_of plan.table).nodes) (sym c.self.view_is) c.requires in
    λ none. subst (λ (plan : PlanOf). (i : ℕ) → i < 8 → IsForcedStep (rule_of plan.table) c.args.node i) c.self.view_is
    (all_forced (rule_of c.self.inside.rule.now) _ c.self.invariant.are_paths _ _ c.self.invariant.tested_steps c.args.node within c.index.result.now c.index.ensures (sym c.has_step.ensures ∙ none))
