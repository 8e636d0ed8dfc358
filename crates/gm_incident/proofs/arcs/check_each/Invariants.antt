use Rattle.std.proofs.Common.{◌<◌, get_or}
use Rattle.gm_model.specs.Structure.{AreGood}
use Rattle.gm_incident.proofs.arcs.check_each.Given as goal

abbrev pub invariant-loop-label : goal.invariant-loop-label
invariant-loop-label l = AreGood (λ i. 0 < get_or l.counts i 0) l.label
