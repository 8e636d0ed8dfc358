use Rattle.gm_parse.proofs.OneReading.{one_syntax_fault}
use Rattle.gm_tree.proofs.OneExpr.{one_name_fault, one_or_other}
use Rattle.gm_tree.proofs.laws.one_fault_at_most.Goals as goal

pub returns-clause-names : goal.returns-clause-names
returns-clause-names c = one_name_fault

pub returns-clause-syntax : goal.returns-clause-syntax
returns-clause-syntax c = one_syntax_fault

pub returns-clause-either : goal.returns-clause-either
returns-clause-either c = one_or_other
