use Rattle.gm_model.proofs.Exits.{unless_ok}
use Rattle.gm_forms.proofs.Stops.{memory_wanting}
use Rattle.gm_forms.proofs.params.at_kind.Goals as goal

pub returns-in_err-declare-clause-moves : goal.returns-in_err-declare-clause-moves
returns-in_err-declare-clause-moves c nodes last = memory_wanting _ c.from_residual.result _ c.from_residual.ensures.1

pub returns-in_err-declare-clause-within : goal.returns-in_err-declare-clause-within
returns-in_err-declare-clause-within c state_in draft_in = unless_ok _ c.from_residual.result c.from_residual.ensures.0

pub returns-clause-within : goal.returns-clause-within
returns-clause-within c state_in draft_in = (tt, c.in_ok-declare.ensures.within c.args.lexer.now.text state_in draft_in)
