use Rattle.gm_model.proofs.Exits.{unless_ok}
use Rattle.gm_book.proofs.table.numbered_parts.Goals as goal

pub returns-in_err-params-clause-params : goal.returns-in_err-params-clause-params
returns-in_err-params-clause-params c = unless_ok _ c.from_residual.result c.from_residual.ensures.0

pub returns-in_err-params-clause-nodes : goal.returns-in_err-params-clause-nodes
returns-in_err-params-clause-nodes c = unless_ok _ c.from_residual.result c.from_residual.ensures.0

pub returns-in_err-nodes-clause-params : goal.returns-in_err-nodes-clause-params
returns-in_err-nodes-clause-params c = unless_ok _ c.from_residual-in_err-nodes.result c.from_residual-in_err-nodes.ensures.0

pub returns-in_err-nodes-clause-nodes : goal.returns-in_err-nodes-clause-nodes
returns-in_err-nodes-clause-nodes c = unless_ok _ c.from_residual-in_err-nodes.result c.from_residual-in_err-nodes.ensures.0
