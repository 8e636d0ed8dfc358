use Rattle.std.proofs.Common.{◌≤◌, ◌-◌, length}
use Rattle.gm_tree.specs.inner.Building.{work_of}
use Rattle.gm_tree.specs.inner.Built.{IsUnderway}
use Rattle.gm_tree.specs.inner.FirstNames.{first_names}
use Rattle.gm_parse.specs.inner.Reading.{spot_at}
use Rattle.gm_tree.proofs.reading.build.Given as goal

abbrev pub invariant-loop-token : goal.invariant-loop-token
invariant-loop-token l = (l.count ≤ 256) × (length l.state.open_brackets ≤ l.count) × IsUnderway l.dim (first_names l.fn.env.schema.now l.fn.env.params.now l.fn.env.nodes.now) l.fn.lexer l.lexer (spot_at l.count l.state) (work_of l.builder l.partial)

abbrev pub decreases-loop-token : goal.decreases-loop-token
decreases-loop-token l = length l.fn.lexer.text - l.lexer.place
