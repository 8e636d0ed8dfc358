-- The clause is the theorem.
use Rattle.gm_theory.proofs.ValuesKept.{applications_keep_sound_maps as sound}
use Rattle.gm_theory.proofs.values.applications_keep_sound_maps.Goals as goal

pub returns : goal.returns
returns c = sound
