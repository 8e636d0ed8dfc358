use Rattle.std.proofs.Common.{List}
use Rattle.gm_model.specs.Runs.{Outcome}
use Rattle.gm_run.specs.inner.Lines.{Tells}
use Rattle.gm_tool.proofs.Statuses.{IsStatusFrom}
use Rattle.gm_tool.proofs.running.status_of.Given as goal

abbrev pub invariant-loop-outcome : goal.invariant-loop-outcome
invariant-loop-outcome l = (told : List Outcome) → Tells l.outcomes told → IsStatusFrom told l.outcome-index
