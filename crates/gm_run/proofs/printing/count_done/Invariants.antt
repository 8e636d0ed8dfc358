use Rattle.std.proofs.Common.{◌≡◌, ◌≤◌, List, take}
use Rattle.std.specs.List.{count_by}
use Rattle.gm_model.specs.Runs.{Outcome, is_done}
use Rattle.gm_run.specs.inner.Lines.{Tells}
use Rattle.gm_run.proofs.printing.count_done.Given as goal

abbrev pub invariant-loop-outcome : goal.invariant-loop-outcome
invariant-loop-outcome l = record {
  within : l.done ≤ l.outcome-index;
  counted : (told : List Outcome) → Tells l.outcomes told → l.done ≡ count_by is_done (take l.outcome-index told);
}
