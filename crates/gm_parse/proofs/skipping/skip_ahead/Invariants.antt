use Rattle.std.proofs.Common.{◌≤◌, ◌-◌, length}
use Rattle.gm_parse.specs.inner.Answers.{Reads}
use Rattle.gm_parse.specs.inner.Reading.{first_spot, spot_at}
use Rattle.gm_parse.proofs.skipping.skip_ahead.Given as goal

abbrev pub invariant-loop-count : goal.invariant-loop-count
invariant-loop-count l = (l.count ≤ 256) × (length l.state.open_brackets ≤ l.count) × Reads l.dim first_spot l.fn.lexer l.lexer (spot_at l.count l.state)

abbrev pub decreases-loop-count : goal.decreases-loop-count
decreases-loop-count l = length l.fn.lexer.text - l.lexer.place
