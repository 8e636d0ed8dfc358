use Rattle.std.proofs.Common.{◌≡◌, ◌*◌, ◌^◌, ◌≤◌, List, map, sum, take}
use Rattle.gm_model.specs.Reports.{done_in, refused_in}
use Rattle.gm_model.specs.Runs.{Outcome}
use Rattle.gm_run.specs.inner.Lines.{Tells}
use Rattle.gm_run.proofs.printing.count_told.Given as goal

abbrev pub invariant-loop-outcome : goal.invariant-loop-outcome
invariant-loop-outcome l = record {
  few_done : l.counts.done ≤ l.outcome-index * 2 ^ 32;
  few_refused : l.counts.refused ≤ l.outcome-index * 2 ^ 32;
  done : (told : List Outcome) → Tells l.outcomes told → l.counts.done ≡ sum (map done_in (take l.outcome-index told));
  refused : (told : List Outcome) → Tells l.outcomes told → l.counts.refused ≡ sum (map refused_in (take l.outcome-index told));
}
