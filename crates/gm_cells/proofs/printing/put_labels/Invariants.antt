use Rattle.std.proofs.Common.{◌≡◌, ◌++◌, drop}
use Rattle.gm_cells.specs.CellsText.{listed}
use Rattle.gm_cells.proofs.printing.put_labels.Given as goal

abbrev pub invariant-loop-label : goal.invariant-loop-label
invariant-loop-label l = l.text ++ listed (drop l.label-index l.labels) ≡ l.fn.text ++ listed l.labels
