use Rattle.std.proofs.Common.{◌≡◌, ◌<◌, length, get_or, sym, subst, arith}
use Rattle.gm_model.specs.declared.step.Step.TheVariants.{Absent}
use Rattle.gm_model.specs.Rules.{rule_of}
use Rattle.gm_plan.specs.inner.Changes.{made_step}
use Rattle.gm_plan.specs.inner.Plans.{PlanOf}
use Rattle.gm_plan.proofs.Rows.{read_row}
use Rattle.gm_plan.proofs.plan.Plan.made_step.Goals as goal

pub offset_bounds-index-label : goal.offset_bounds-index-label
offset_bounds-index-label c = omega (arith, c.requires.label)

pub bounds-index-label : goal.bounds-index-label
bounds-index-label c = c.requires.label

pub returns : goal.returns
returns c =
    let within = subst (λ (plan : PlanOf). c.args.node < length (rule_of plan.table).nodes) (sym c.self.view_is) c.requires.node in
    subst (λ (plan : PlanOf). get_or c.index.result.now c.args.label Absent ≡ made_step (rule_of plan.table) c.args.node c.args.label) c.self.view_is
    (read_row (made_step (rule_of c.self.inside.rule.now)) _ c.self.inside.made.items c.self.invariant.made_steps c.args.node c.args.label within c.requires.label c.index.result.now c.index.ensures)
