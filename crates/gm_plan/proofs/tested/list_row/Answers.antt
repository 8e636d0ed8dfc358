use Rattle.std.proofs.Common.{refl}
use Rattle.gm_plan.specs.inner.Searches.{row_step}
use Rattle.gm_plan.proofs.Tests.{one_listed, one_passed, row_listed}
use Rattle.gm_plan.proofs.tested.list_row.Goals as goal
use Rattle.gm_plan.proofs.tested.list_row.Goals.{in-Absent, in_default+in_ok-push-in_default}

pub loop-label-preserved : goal.loop-label-preserved
loop-label-preserved c =
    let l = c.loop-label in
    let steps = row_step c.args.rows.now in
    elim c.match-rows-node.branch [
      | in-Absent w ↦ rw w.tests-is (one_passed steps c.args.labels c.args.node l.label l.tests.items l.invariant w.in-Absent.is)
      | in_default+in_ok-push-in_default w ↦ rw (w.tests-is, w.in_ok-push-in_default.ensures.items) (one_listed steps c.args.labels c.args.node l.label l.tests.items l.invariant (steps c.args.node l.label) c.loop-label-test.true refl w.in_default.not-Absent)
    ]

pub returns : goal.returns
returns c = row_listed (row_step c.args.rows.now) c.args.labels c.args.node c.loop-label.label c.loop-label.tests.items c.loop-label-test.false c.loop-label.auto.label-end c.loop-label.invariant
