use Rattle.gm_tree.proofs.OneExpr.{no_name_fault, no_grammar_fault}
use Rattle.gm_tree.proofs.laws.no_tree_at_a_fault.Goals as goal

pub returns-clause-names : goal.returns-clause-names
returns-clause-names c = no_name_fault

pub returns-clause-syntax : goal.returns-clause-syntax
returns-clause-syntax c = no_grammar_fault
