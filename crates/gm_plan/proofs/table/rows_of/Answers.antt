use Rattle.std.proofs.Common.{◌≡◌, length, refl}
use Rattle.std.proofs.lemmas.Result.{IfOk-from_err}
use Rattle.gm_plan.proofs.Rows.{no_rows, all_rows, row_more}
use Rattle.gm_plan.proofs.table.rows_of.Goals as goal

pub row_of-requires : goal.row_of-requires
row_of-requires g c = c.requires c.loop-node.node c.loop-node-test.true

pub loop-node-preserved : goal.loop-node-preserved
loop-node-preserved g c =
    let long : length c.row_of.result ≡ 8 = search in
    rw c.in_ok-push.ensures.items (row_more (g.S.StepAt.step c.args.steps.now) _ _ _ c.loop-node.invariant long c.row_of.ensures)

pub loop-node-init : goal.loop-node-init
loop-node-init g c = no_rows (g.S.StepAt.step c.args.steps.now) _ c.new-rows.ensures.items

pub returns-in_err-push : goal.returns-in_err-push
returns-in_err-push g c = IfOk-from_err c.from_residual.result _ c.from_residual.ensures.0

pub returns : goal.returns
returns g c = all_rows (g.S.StepAt.step c.args.steps.now) _ _ _ _ c.loop-node.invariant c.loop-node.auto.node-end c.loop-node-test.false refl
