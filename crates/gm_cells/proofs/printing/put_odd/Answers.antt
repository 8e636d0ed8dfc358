use Rattle.std.proofs.Common.{subst, ◌≡◌, ◌++◌}
use Rattle.std.specs.Prelude.{decimal}
use Rattle.gm_cells.proofs.TextLemmas.{three_parts}
use Rattle.gm_cells.proofs.printing.put_odd.Goals as goal

pub returns : goal.returns
returns c = three_parts c.put_walk.result c.args.text.now _ _ _ _ _ _ c.in_ok-put.ensures.ok (subst (λ n. c.number.new.self ≡ c.put.new.self ++ decimal n) c.from.ensures c.in_ok-number.ensures.ok) c.put_walk.ensures
