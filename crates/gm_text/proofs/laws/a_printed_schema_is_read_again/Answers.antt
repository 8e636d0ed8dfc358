use Rattle.gm_text.proofs.SchemaAgain.{read_again}
use Rattle.gm_text.proofs.laws.a_printed_schema_is_read_again.Goals as goal

pub returns : goal.returns
returns c = read_again
