use Rattle.std.proofs.lemmas.Result.{IfOk-from_err}
use Rattle.gm_plan.proofs.sides.sides_of.Goals as goal

pub side_steps-requires : goal.side_steps-requires
side_steps-requires c = c.requires

pub returns-in_err-left : goal.returns-in_err-left
returns-in_err-left c = IfOk-from_err c.from_residual.result _ c.from_residual.ensures.0

pub side_steps-requires-2 : goal.side_steps-requires-2
side_steps-requires-2 c = c.requires

pub returns-in_err-right : goal.returns-in_err-right
returns-in_err-right c = IfOk-from_err c.from_residual-in_err-right.result _ c.from_residual-in_err-right.ensures.0

pub returns : goal.returns
returns c = (c.in_ok-left.ensures, c.in_ok-right.ensures)
