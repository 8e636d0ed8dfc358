use Rattle.std.proofs.Common.{◌≤◌, get_or}
use Rattle.gm_model.specs.Structure.{AreGood}
use Rattle.gm_incident.proofs.arcs.check_once.Given as goal

abbrev pub invariant-loop-label : goal.invariant-loop-label
invariant-loop-label l = AreGood (λ i. get_or l.counts i 0 ≤ 1) l.label
