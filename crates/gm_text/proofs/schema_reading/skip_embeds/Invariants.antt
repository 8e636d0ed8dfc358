use Rattle.std.proofs.Common.{◌≡◌, ◌-◌, List, false, [], length}
use Rattle.gm_model.specs.declared.schema.Embed.{Embed}
use Rattle.gm_text.specs.inner.SchemaReading.{AtEmbeds}
use Rattle.gm_text.specs.inner.SchemaAnswers.{Reads}
use Rattle.gm_text.proofs.schema_reading.skip_embeds.Given as goal

abbrev pub invariant-loop-count : goal.invariant-loop-count
invariant-loop-count l = (declared : List Embed) × (length declared ≡ l.count) × Reads false (AtEmbeds l.dim []) l.fn.lexer l.lexer (AtEmbeds l.dim declared)

abbrev pub decreases-loop-count : goal.decreases-loop-count
decreases-loop-count l = length l.fn.lexer.text - l.lexer.place
