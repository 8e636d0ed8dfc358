use Rattle.gm_dual.proofs.TwiceLemmas.{rule_twice}
use Rattle.gm_dual.proofs.laws.the_dual_of_the_dual_is_the_rule.Goals as goal

pub returns : goal.returns
returns c = rule_twice
