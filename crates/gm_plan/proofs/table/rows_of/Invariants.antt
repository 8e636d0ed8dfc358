use Rattle.gm_plan.specs.inner.Plans.{AreRows}
use Rattle.gm_plan.proofs.table.rows_of.Given as goal

abbrev pub invariant-loop-node : goal.invariant-loop-node
invariant-loop-node g l = AreRows (g.S.StepAt.step l.steps) l.node l.rows.items
