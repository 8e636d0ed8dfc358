use Rattle.gm_text.proofs.OneSchema.{one_read, one_skipped}
use Rattle.gm_text.proofs.laws.one_schema_at_most.Goals as goal

pub returns-clause-read : goal.returns-clause-read
returns-clause-read c = one_read

pub returns-clause-skipped : goal.returns-clause-skipped
returns-clause-skipped c = one_skipped
