use Rattle.std.proofs.Common.{◌-◌, ◌≤◌, length}
use Rattle.gm_text.proofs.Gaps.{IsPassed}
use Rattle.gm_text.proofs.scan.gap_end.Given as goal

abbrev pub invariant-loop-at : goal.invariant-loop-at
invariant-loop-at l = record {
  behind : l.from ≤ l.at;
  inside : l.at ≤ length l.text;
  passed : IsPassed l.text l.from l.at;
}

abbrev pub decreases-loop-at : goal.decreases-loop-at
decreases-loop-at l = length l.text - l.at
