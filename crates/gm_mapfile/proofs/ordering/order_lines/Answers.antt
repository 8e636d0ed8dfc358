use Rattle.gm_model.proofs.Exits.{never_ok}
use Rattle.gm_mapfile.proofs.ordering.order_lines.Goals as goal

pub returns-in_err-taken : goal.returns-in_err-taken
returns-in_err-taken g c = never_ok _ c.from_residual.result c.from_residual.ensures.0

pub returns-in_err-take_lines : goal.returns-in_err-take_lines
returns-in_err-take_lines g c = never_ok _ c.from_residual-in_err-take_lines.result c.from_residual-in_err-take_lines.ensures.0
