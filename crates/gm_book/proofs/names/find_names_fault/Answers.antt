use Rattle.gm_model.proofs.Exits.{unless_ok}
use Rattle.gm_book.proofs.names.find_names_fault.Goals as goal

pub returns-in_err-params : goal.returns-in_err-params
returns-in_err-params c = unless_ok _ c.from_residual.result c.from_residual.ensures.0

pub returns-in_err-left : goal.returns-in_err-left
returns-in_err-left c = unless_ok _ c.from_residual-in_err-left.result c.from_residual-in_err-left.ensures.0

pub returns-in_err-right : goal.returns-in_err-right
returns-in_err-right c = unless_ok _ c.from_residual-in_err-right.result c.from_residual-in_err-right.ensures.0

pub returns-in_err-sets : goal.returns-in_err-sets
returns-in_err-sets c = unless_ok _ c.from_residual-in_err-sets.result c.from_residual-in_err-sets.ensures.0
