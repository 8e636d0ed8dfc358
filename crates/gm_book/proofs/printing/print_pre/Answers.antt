use Rattle.gm_model.proofs.Exits.{never_ok}
use Rattle.gm_book.proofs.printing.print_pre.Goals as goal

pub returns-in_err-put-in-Some : goal.returns-in_err-put-in-Some
returns-in_err-put-in-Some c = never_ok _ c.from_residual.result c.from_residual.ensures.0

pub returns-in_err-print_expr-in-Some : goal.returns-in_err-print_expr-in-Some
returns-in_err-print_expr-in-Some c = never_ok _ c.from_residual-in_err-print_expr-in-Some.result c.from_residual-in_err-print_expr-in-Some.ensures.0
