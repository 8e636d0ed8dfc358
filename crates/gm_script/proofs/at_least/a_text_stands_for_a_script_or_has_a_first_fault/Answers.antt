use Rattle.gm_script.proofs.AtLeast.{stands_or_fault}
use Rattle.gm_script.proofs.at_least.a_text_stands_for_a_script_or_has_a_first_fault.Goals as goal

pub returns : goal.returns
returns c = stands_or_fault
