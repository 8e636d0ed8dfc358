use Rattle.gm_script.proofs.OneScript.{one_script}
use Rattle.gm_script.proofs.laws.one_script_at_most.Goals as goal

pub returns : goal.returns
returns c = one_script
