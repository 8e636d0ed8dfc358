use Rattle.gm_dual.proofs.TwiceLemmas.{map_is_twice}
use Rattle.gm_dual.proofs.laws.the_dual_of_the_dual_is_the_map.Goals as goal

pub returns : goal.returns
returns c = map_is_twice
