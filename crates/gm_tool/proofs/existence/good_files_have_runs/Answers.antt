use Rattle.gm_tool.proofs.RunsMade.{run_made}
use Rattle.gm_tool.proofs.existence.good_files_have_runs.Goals as goal

pub returns : goal.returns
returns c = run_made
