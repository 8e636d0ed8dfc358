use Rattle.gm_model.proofs.Exits.{never_ok}
use Rattle.gm_run.proofs.words.put_node.Goals as goal

pub returns-in_err-put : goal.returns-in_err-put
returns-in_err-put c = never_ok _ c.from_residual.result c.from_residual.ensures.0
