use Rattle.gm_model.proofs.Exits.{never_ok}
use Rattle.gm_book.proofs.printing.print_left_node.Goals as goal

pub returns-in_err-print_word-in-Some : goal.returns-in_err-print_word-in-Some
returns-in_err-print_word-in-Some c = never_ok _ c.from_residual.result c.from_residual.ensures.0
