use Rattle.std.proofs.lemmas.Result.{IfOk-from_err}
use Rattle.gm_plan.proofs.lookup.Lookup.build.Goals as goal

pub add_nodes-requires-clause-nodes : goal.add_nodes-requires-clause-nodes
add_nodes-requires-clause-nodes c = c.requires

pub returns-in_err-add_nodes : goal.returns-in_err-add_nodes
returns-in_err-add_nodes c = IfOk-from_err c.from_residual.result _ c.from_residual.ensures.0

pub returns-in_err-instances : goal.returns-in_err-instances
returns-in_err-instances c = IfOk-from_err c.from_residual-in_err-instances.result _ c.from_residual-in_err-instances.ensures.0
