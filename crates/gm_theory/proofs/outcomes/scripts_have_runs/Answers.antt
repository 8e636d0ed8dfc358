-- The clause is the law.
use Rattle.gm_theory.proofs.RunsFound.{scripts_have_runs as have_runs}
use Rattle.gm_theory.proofs.outcomes.scripts_have_runs.Goals as goal

pub returns : goal.returns
returns c = have_runs
