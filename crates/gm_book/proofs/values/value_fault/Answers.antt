use Rattle.gm_model.proofs.Exits.{unless_ok}
use Rattle.gm_book.proofs.Checked.{least_at}
use Rattle.gm_book.proofs.values.value_fault.Goals as goal

pub returns-in_err-expr : goal.returns-in_err-expr
returns-in_err-expr c = unless_ok _ c.from_residual.result c.from_residual.ensures.0

pub checked_value-requires-clause-within : goal.checked_value-requires-clause-within
checked_value-requires-clause-within c = c.requires.within

pub checked_value-requires-clause-expr : goal.checked_value-requires-clause-expr
checked_value-requires-clause-expr c = c.requires.expr

pub returns-in-Ok : goal.returns-in-Ok
returns-in-Ok c = least_at _ c.in_ok-expr.field-0 _ c.in-Ok.is c.in_ok-expr.ensures.fault

pub returns-in-Err : goal.returns-in-Err
returns-in-Err c = least_at _ c.in_ok-expr.field-0 _ c.in-Err.is c.in_ok-expr.ensures.fault
