use Rattle.gm_model.proofs.Exits.{never_ok}
use Rattle.gm_book.proofs.printing.print_right_node.Goals as goal

pub returns-in_err-print_word-in-Some : goal.returns-in_err-print_word-in-Some
returns-in_err-print_word-in-Some c = never_ok _ c.from_residual.result c.from_residual.ensures.0

pub returns-in_err-print_sets-in-Some : goal.returns-in_err-print_sets-in-Some
returns-in_err-print_sets-in-Some c = never_ok _ c.from_residual-in_err-print_sets-in-Some.result c.from_residual-in_err-print_sets-in-Some.ensures.0
