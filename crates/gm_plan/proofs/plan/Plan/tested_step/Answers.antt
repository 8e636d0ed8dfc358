use Rattle.std.proofs.Common.{◌≡◌, ◌≢◌, ◌<◌, length, get_or, sym, subst, arith}
use Rattle.gm_model.specs.declared.rule.Side.TheVariants.{Left}
use Rattle.gm_model.specs.declared.step.Step.TheVariants.{Absent}
use Rattle.gm_model.specs.Rules.{rule_of, step}
use Rattle.gm_plan.specs.inner.Plans.{PlanOf}
use Rattle.gm_plan.specs.inner.Tested.{IsForcedStep}
use Rattle.gm_plan.proofs.Forced.{row_forced, row_kept}
use Rattle.gm_plan.proofs.plan.Plan.tested_step.Goals as goal

pub offset_bounds-index-label : goal.offset_bounds-index-label
offset_bounds-index-label c = omega (arith, c.requires.label)

pub bounds-index-label : goal.bounds-index-label
bounds-index-label c = c.requires.label

pub returns-clause-forced : goal.returns-clause-forced
returns-clause-forced c =
    let within = subst (λ (plan : PlanOf). c.args.node < length (rule_of plan.table).nodes) (sym c.self.view_is) c.requires.node in
    subst (λ (plan : PlanOf). get_or c.index.result.now c.args.label Absent ≡ Absent → IsForcedStep (rule_of plan.table) c.args.node c.args.label) c.self.view_is
    (row_forced (rule_of c.self.inside.rule.now) _ c.self.invariant.are_paths _ _ c.self.invariant.tested_steps c.args.node within c.index.result.now c.index.ensures c.args.label c.requires.label)

pub returns-clause-kept : goal.returns-clause-kept
returns-clause-kept c =
    let within = subst (λ (plan : PlanOf). c.args.node < length (rule_of plan.table).nodes) (sym c.self.view_is) c.requires.node in
    subst (λ (plan : PlanOf). get_or c.index.result.now c.args.label Absent ≢ Absent → get_or c.index.result.now c.args.label Absent ≡ step (rule_of plan.table) Left c.args.node c.args.label) c.self.view_is
    (row_kept (rule_of c.self.inside.rule.now) _ c.self.invariant.are_paths _ _ c.self.invariant.tested_steps c.args.node within c.index.result.now c.index.ensures c.args.label c.requires.label)
