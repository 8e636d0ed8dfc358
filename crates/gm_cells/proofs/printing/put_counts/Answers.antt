use Rattle.std.proofs.Common.{codes, ap}
use Rattle.gm_cells.specs.CellsText.{numbered}
use Rattle.gm_cells.proofs.TextLemmas.{four_parts}
use Rattle.gm_cells.proofs.printing.put_counts.Goals as goal

pub returns : goal.returns
returns c = four_parts c.put_numbered-2.result c.args.text.now _ _ _ _ _ _ _ _ _ _
    (ap (numbered (codes "cells ") 0) c.as_slice.ensures) (ap (numbered (codes "free ") 0) c.as_slice-2.ensures)
    c.in_ok-put_number_line.ensures c.in_ok-put_numbered.ensures c.in_ok-put_number_line-2.ensures c.put_numbered-2.ensures
