use Rattle.gm_text.proofs.OneSchema.{no_schema, no_skipped}
use Rattle.gm_text.proofs.laws.no_schema_at_a_fault.Goals as goal

pub returns-clause-read : goal.returns-clause-read
returns-clause-read c = no_schema

pub returns-clause-skipped : goal.returns-clause-skipped
returns-clause-skipped c = no_skipped
