use Rattle.std.proofs.Common.{[], ◌∷◌, ◌++◌, sym, ap, ◌∙◌, arith}
use Rattle.std.proofs.lemmas.List.FromFn.{map-range_with_len_more}
use Rattle.gm_grid.specs.GridBook.{stat_at}
use Rattle.gm_grid.proofs.script.make_script.Goals as goal

pub loop-square-preserved : goal.loop-square-preserved
loop-square-preserved c =
    c.in_ok-push.ensures.ok
    ∙ (ap (λ stats. stats ++ stat_at c.loop-square.square ∷ []) c.loop-square.invariant
    ∙ sym (map-range_with_len_more stat_at 0 c.loop-square.square c.loop-square.square (omega arith)))
