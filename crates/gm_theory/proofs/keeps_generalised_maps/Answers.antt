use Rattle.gm_theory.proofs.Keeps.{rules_keep_generalised_maps}
use Rattle.gm_theory.proofs.keeps_generalised_maps.Goals as goal

pub returns : goal.returns
returns c = rules_keep_generalised_maps
