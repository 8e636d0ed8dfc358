use Rattle.gm_cells.proofs.LeastLemmas.{IsOnWay}
use Rattle.gm_cells.proofs.odd_walk.least_odd_walk.Given as goal

abbrev pub invariant-loop-mark : goal.invariant-loop-mark
invariant-loop-mark g l = IsOnWay l.arena l.marks l.fn.start.at l.slot.at l.mark l.labels.items

abbrev pub decreases-loop-mark : goal.decreases-loop-mark
decreases-loop-mark g l = l.mark
