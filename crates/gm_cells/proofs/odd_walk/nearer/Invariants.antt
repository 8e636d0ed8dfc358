use Rattle.std.proofs.Common.{ℕ, ◌<◌}
use Rattle.gm_cells.specs.inner.OddStart.{IsNearer}
use Rattle.gm_cells.proofs.odd_walk.nearer.Given as goal

abbrev pub invariant-loop-label : goal.invariant-loop-label
invariant-loop-label g l = (j : ℕ) → j < l.label → IsNearer l.arena l.marks l.slot.at l.mark j → ⊥
