use Rattle.std.proofs.lemmas.List.{length-set}
use Rattle.gm_plan.proofs.Rows.{cell_more}
use Rattle.gm_plan.proofs.table.row_of.Goals as goal

pub loop-label-preserved : goal.loop-label-preserved
loop-label-preserved g c = record {
  long = rw length-set c.loop-label.invariant.long;
  here = cell_more (g.S.StepAt.step c.args.steps.now c.args.node) _ _ _ (rw c.loop-label.invariant.long c.loop-label-test.true) c.step_at.ensures c.loop-label.invariant.here;
}
