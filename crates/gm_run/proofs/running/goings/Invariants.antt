use Rattle.std.proofs.Common.{◌≡◌, ◌≤◌, take}
use Rattle.std.specs.List.{sum_by}
use Rattle.gm_run.specs.inner.Standing.{going}
use Rattle.gm_run.proofs.running.goings.Given as goal

abbrev pub invariant-loop-index : goal.invariant-loop-index
invariant-loop-index l = record {
  few : l.all ≤ l.index;
  counted : l.all ≡ sum_by going (take l.index l.script.stats);
}
