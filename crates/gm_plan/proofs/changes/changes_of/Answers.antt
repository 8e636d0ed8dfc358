use Rattle.std.proofs.Common.{◌<◌, length, sym, subst, arith}
use Rattle.std.proofs.lemmas.Result.{IfOk-from_err}
use Rattle.gm_model.specs.declared.rule.Side.TheVariants.{Left, Right}
use Rattle.gm_model.specs.Rules.{rule_of}
use Rattle.gm_plan.specs.inner.Plans.{AreSteps}
use Rattle.gm_plan.proofs.changes.changes_of.Goals as goal

pub node_count-nodes-requires : goal.node_count-nodes-requires
node_count-nodes-requires c = omega (arith, c.requires.few)

pub rows_of-requires : goal.rows_of-requires
rows_of-requires c node below = (
  subst (AreSteps (rule_of c.args.rule.now) Left (length (rule_of c.args.rule.now).nodes)) (sym c.as_slice-left.ensures.value) c.requires.left,
  subst (AreSteps (rule_of c.args.rule.now) Right (length (rule_of c.args.rule.now).nodes)) (sym c.as_slice-right.ensures.value) c.requires.right,
  subst (λ n. node < n) c.node_count-nodes.ensures below,
)

pub returns-in_err-made : goal.returns-in_err-made
returns-in_err-made c = IfOk-from_err c.from_residual.result _ c.from_residual.ensures.0

pub rows_of-requires-2 : goal.rows_of-requires-2
rows_of-requires-2 c node below = (
  subst (AreSteps (rule_of c.args.rule.now) Left (length (rule_of c.args.rule.now).nodes)) (sym c.as_slice-left.ensures.value) c.requires.left,
  subst (λ n. node < n) c.node_count-nodes.ensures below,
)

pub returns-in_err-freed : goal.returns-in_err-freed
returns-in_err-freed c = IfOk-from_err c.from_residual-in_err-freed.result _ c.from_residual-in_err-freed.ensures.0

pub returns : goal.returns
returns c = (rw (← c.node_count-nodes.ensures) c.in_ok-made.ensures, rw (← c.node_count-nodes.ensures) c.in_ok-freed.ensures)
