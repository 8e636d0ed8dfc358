use Rattle.std.proofs.Common.{◌-◌, ℕ, List, length}
use Rattle.gm_model.specs.declared.schema.Embed.{Embed}
use Rattle.gm_text.specs.inner.SchemaReading.{AtOrbit, AtLabel}
use Rattle.gm_text.specs.inner.SchemaAnswers.{Reads}
use Rattle.gm_text.proofs.schema_reading.read_orbit.Given as goal

abbrev pub invariant-loop-label : goal.invariant-loop-label
invariant-loop-label l = (declared : List Embed) (name : List ℕ) → Reads l.strict (AtOrbit l.dim declared name) l.fn.lexer l.lexer (AtLabel l.dim declared name l.mask)

abbrev pub decreases-loop-label : goal.decreases-loop-label
decreases-loop-label l = length l.fn.lexer.text - l.lexer.place
