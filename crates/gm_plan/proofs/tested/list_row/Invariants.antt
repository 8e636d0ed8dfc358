use Rattle.gm_plan.specs.inner.Searches.{row_step}
use Rattle.gm_plan.specs.inner.Tested.{AreListed}
use Rattle.gm_plan.proofs.tested.list_row.Given as goal

abbrev pub invariant-loop-label : goal.invariant-loop-label
invariant-loop-label l = AreListed (row_step l.rows) l.labels l.node l.label l.tests.items
