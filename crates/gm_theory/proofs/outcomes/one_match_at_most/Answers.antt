-- The clause is the law.
use Rattle.gm_theory.proofs.Agreement.{one_match}
use Rattle.gm_theory.proofs.outcomes.one_match_at_most.Goals as goal

pub returns : goal.returns
returns c = one_match
