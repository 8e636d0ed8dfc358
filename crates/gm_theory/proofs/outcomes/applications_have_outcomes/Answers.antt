-- The clause is the law.
use Rattle.gm_theory.proofs.OutcomesFound.{applications_have_outcomes as have_outcomes}
use Rattle.gm_theory.proofs.outcomes.applications_have_outcomes.Goals as goal

pub returns : goal.returns
returns c = have_outcomes
