use Rattle.std.proofs.Common.{◌≡◌, ◌<◌, length, get_or, sym, subst, arith}
use Rattle.gm_model.specs.declared.step.Step.TheVariants.{Absent}
use Rattle.gm_model.specs.Rules.{rule_of, step}
use Rattle.gm_model.specs.declared.rule.Side.TheVariants.{Left, Right}
use Rattle.gm_plan.specs.inner.Plans.{PlanOf}
use Rattle.gm_plan.proofs.Rows.{read_row}
use Rattle.gm_plan.proofs.plan.Plan.step.Goals as goal

pub offset_bounds-index-label : goal.offset_bounds-index-label
offset_bounds-index-label c = omega (arith, c.requires.label)

pub bounds-index-label : goal.bounds-index-label
bounds-index-label c = c.requires.label

pub offset_bounds-index-label-in-Right : goal.offset_bounds-index-label-in-Right
offset_bounds-index-label-in-Right c = omega (arith, c.requires.label)

pub bounds-index-label-in-Right : goal.bounds-index-label-in-Right
bounds-index-label-in-Right c = c.requires.label

pub returns-in-Left : goal.returns-in-Left
returns-in-Left c =
    let within = subst (λ (plan : PlanOf). c.args.node < length (rule_of plan.table).nodes) (sym c.self.view_is) c.requires.node in
    rw c.in-Left.is (subst (λ (plan : PlanOf). get_or c.index.result.now c.args.label Absent ≡ step (rule_of plan.table) Left c.args.node c.args.label) c.self.view_is
    (read_row (step (rule_of c.self.inside.rule.now) Left) _ c.self.inside.left.items c.self.invariant.left_steps c.args.node c.args.label within c.requires.label c.index.result.now c.index.ensures))

pub returns-in-Right : goal.returns-in-Right
returns-in-Right c =
    let within = subst (λ (plan : PlanOf). c.args.node < length (rule_of plan.table).nodes) (sym c.self.view_is) c.requires.node in
    rw c.in-Right.is (subst (λ (plan : PlanOf). get_or c.index-in-Right.result.now c.args.label Absent ≡ step (rule_of plan.table) Right c.args.node c.args.label) c.self.view_is
    (read_row (step (rule_of c.self.inside.rule.now) Right) _ c.self.inside.right.items c.self.invariant.right_steps c.args.node c.args.label within c.requires.label c.index-in-Right.result.now c.index-in-Right.ensures))
