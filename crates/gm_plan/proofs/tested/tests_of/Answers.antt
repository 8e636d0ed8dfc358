use Rattle.std.proofs.Common.{subst, arith}
use Rattle.std.proofs.lemmas.Result.{IfOk-from_err}
use Rattle.gm_plan.specs.inner.Searches.{row_step}
use Rattle.gm_plan.specs.inner.Tested.{AreListed}
use Rattle.gm_plan.proofs.Tests.{none_listed}
use Rattle.gm_plan.proofs.tested.tests_of.Goals as goal

pub loop-node-init : goal.loop-node-init
loop-node-init c = none_listed (row_step c.args.rows.now) c.args.labels _ c.new-tests.ensures.items

pub list_row-requires-clause-labels : goal.list_row-requires-clause-labels
list_row-requires-clause-labels c = c.requires.labels

pub list_row-requires-clause-before : goal.list_row-requires-clause-before
list_row-requires-clause-before c = c.loop-node.invariant

pub returns-in_err-list_row : goal.returns-in_err-list_row
returns-in_err-list_row c = IfOk-from_err c.from_residual.result _ c.from_residual.ensures.0

pub loop-node-preserved : goal.loop-node-preserved
loop-node-preserved c = c.in_ok-list_row.ensures

pub overflow_cast-node-end : goal.overflow_cast-node-end
overflow_cast-node-end c = omega (arith, c.requires.few)

pub list_row-requires-clause-node : goal.list_row-requires-clause-node
list_row-requires-clause-node c = c.loop-node-test.true

pub loop-node-smaller : goal.loop-node-smaller
loop-node-smaller c = omega (arith, c.loop-node-test.true)

pub returns : goal.returns
returns c =
    subst (λ n. AreListed (row_step c.args.rows.now) c.args.labels n 0 c.loop-node.tests.items) (omega (arith, c.loop-node-test.false, c.loop-node.auto.node-end)) c.loop-node.invariant
