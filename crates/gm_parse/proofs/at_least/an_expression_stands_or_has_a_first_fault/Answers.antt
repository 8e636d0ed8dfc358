use Rattle.gm_parse.proofs.AtLeast.{skipped_or_fault}
use Rattle.gm_parse.proofs.at_least.an_expression_stands_or_has_a_first_fault.Goals as goal

pub returns : goal.returns
returns c = skipped_or_fault
