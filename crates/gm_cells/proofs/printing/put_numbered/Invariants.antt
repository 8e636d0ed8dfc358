use Rattle.std.proofs.Common.{◌≡◌, ◌++◌, drop}
use Rattle.gm_cells.specs.CellsText.{numbered}
use Rattle.gm_cells.proofs.printing.put_numbered.Given as goal

abbrev pub invariant-loop-label : goal.invariant-loop-label
invariant-loop-label l = l.text ++ numbered l.words l.label (drop l.label l.numbers) ≡ l.fn.text ++ numbered l.words 0 l.numbers
