use Rattle.std.proofs.Common.{◌-◌, not, length}
use Rattle.gm_model.specs.Tokens.{is_line_feed}
use Rattle.gm_text.proofs.Runs.{IsRun}
use Rattle.gm_text.proofs.scan.line_end.Given as goal

abbrev pub invariant-loop-at : goal.invariant-loop-at
invariant-loop-at l = IsRun (λ c. not (is_line_feed c)) l.text l.from l.at

abbrev pub decreases-loop-at : goal.decreases-loop-at
decreases-loop-at l = length l.text - l.at
