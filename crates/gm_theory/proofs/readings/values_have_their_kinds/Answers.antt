-- The clause is the law.
use Rattle.gm_theory.proofs.ReadingsTyped.{values_have_their_kinds as typed}
use Rattle.gm_theory.proofs.readings.values_have_their_kinds.Goals as goal

pub returns : goal.returns
returns c = typed
