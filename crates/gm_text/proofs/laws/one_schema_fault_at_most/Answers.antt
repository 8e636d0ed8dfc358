use Rattle.gm_text.proofs.OneSchema.{one_fault, one_skip_fault}
use Rattle.gm_text.proofs.laws.one_schema_fault_at_most.Goals as goal

pub returns-clause-read : goal.returns-clause-read
returns-clause-read c = one_fault

pub returns-clause-skipped : goal.returns-clause-skipped
returns-clause-skipped c = one_skip_fault
