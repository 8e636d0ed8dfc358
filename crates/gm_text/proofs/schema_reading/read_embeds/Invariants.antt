use Rattle.std.proofs.Common.{◌-◌, true, [], length}
use Rattle.gm_text.specs.inner.SchemaReading.{AtEmbeds}
use Rattle.gm_text.specs.inner.SchemaAnswers.{Reads}
use Rattle.gm_text.proofs.schema_reading.read_embeds.Given as goal

abbrev pub invariant-loop-embeds : goal.invariant-loop-embeds
invariant-loop-embeds l = Reads true (AtEmbeds l.dim []) l.fn.lexer l.lexer (AtEmbeds l.dim l.embeds.items)

abbrev pub decreases-loop-embeds : goal.decreases-loop-embeds
decreases-loop-embeds l = length l.fn.lexer.text - l.lexer.place
