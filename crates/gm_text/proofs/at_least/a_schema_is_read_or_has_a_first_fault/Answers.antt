use Rattle.gm_text.proofs.SchemaAtLeast.{read_or_fault, skipped_or_fault}
use Rattle.gm_text.proofs.at_least.a_schema_is_read_or_has_a_first_fault.Goals as goal

pub returns-clause-read : goal.returns-clause-read
returns-clause-read c = read_or_fault

pub returns-clause-skipped : goal.returns-clause-skipped
returns-clause-skipped c = skipped_or_fault
