-- The clause is the law.
use Rattle.gm_theory.proofs.ReadingsUnits.{readings_are_determined as determined}
use Rattle.gm_theory.proofs.readings.readings_are_determined.Goals as goal

pub returns : goal.returns
returns c = determined
