use Rattle.gm_model.proofs.Exits.{unless_ok}
use Rattle.gm_book.proofs.names.side_fault.Goals as goal

pub returns-in_err-again : goal.returns-in_err-again
returns-in_err-again c = unless_ok _ c.from_residual.result c.from_residual.ensures.0
