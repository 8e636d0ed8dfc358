use Rattle.gm_cells.proofs.TextLemmas.{three_parts}
use Rattle.gm_cells.proofs.printing.put_first.Goals as goal

pub returns : goal.returns
returns c = three_parts c.put-2.result c.args.text.now _ _ _ _ _ _ c.in_ok-put.ensures.ok c.in_ok-put_numbers.ensures.ok c.put-2.ensures.ok
