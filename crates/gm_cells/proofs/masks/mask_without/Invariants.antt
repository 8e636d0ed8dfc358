use Rattle.gm_cells.proofs.MaskLemmas.{AreSet}
use Rattle.gm_cells.proofs.masks.mask_without.Given as goal

abbrev pub invariant-loop-other : goal.invariant-loop-other
invariant-loop-other l = AreSet l.label l.other l.bits
