-- The clause is the theorem.
use Rattle.gm_theory.proofs.ValuesKept.{rules_keep_well_embedded_maps}
use Rattle.gm_theory.proofs.values.keeps_well_embedded_maps.Goals as goal

pub returns : goal.returns
returns c = rules_keep_well_embedded_maps
