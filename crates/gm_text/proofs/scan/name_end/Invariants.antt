use Rattle.std.proofs.Common.{◌-◌, length}
use Rattle.gm_model.specs.Tokens.{is_name_byte}
use Rattle.gm_text.proofs.Runs.{IsRun}
use Rattle.gm_text.proofs.scan.name_end.Given as goal

abbrev pub invariant-loop-at : goal.invariant-loop-at
invariant-loop-at l = IsRun is_name_byte l.text l.from l.at

abbrev pub decreases-loop-at : goal.decreases-loop-at
decreases-loop-at l = length l.text - l.at
