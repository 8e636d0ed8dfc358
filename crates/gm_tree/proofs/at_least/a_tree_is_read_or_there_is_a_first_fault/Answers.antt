use Rattle.gm_tree.proofs.AtLeast.{read_or_fault}
use Rattle.gm_tree.proofs.at_least.a_tree_is_read_or_there_is_a_first_fault.Goals as goal

pub returns : goal.returns
returns c = read_or_fault
