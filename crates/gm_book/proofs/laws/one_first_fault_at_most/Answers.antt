use Rattle.gm_book.proofs.OneBook.{one_fault, one_name_fault}
use Rattle.gm_book.proofs.laws.one_first_fault_at_most.Goals as goal

pub returns-clause-one : goal.returns-clause-one
returns-clause-one c = one_fault

pub returns-clause-names : goal.returns-clause-names
returns-clause-names c = one_name_fault
