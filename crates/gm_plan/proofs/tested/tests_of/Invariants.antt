use Rattle.gm_plan.specs.inner.Searches.{row_step}
use Rattle.gm_plan.specs.inner.Tested.{AreListed}
use Rattle.gm_plan.proofs.tested.tests_of.Given as goal

abbrev pub invariant-loop-node : goal.invariant-loop-node
invariant-loop-node l = AreListed (row_step l.rows) l.labels l.node 0 l.tests.items
