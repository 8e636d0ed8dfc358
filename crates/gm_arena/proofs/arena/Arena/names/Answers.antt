use Rattle.std.proofs.lemmas.Result.{IfOk-weaker}
use Rattle.std.proofs.Common.{◌∙◌}
use Rattle.gm_arena.proofs.NameLemmas.{names_live}
use Rattle.gm_arena.proofs.SortedLemmas.{names_in_order, of_both}
use Rattle.gm_arena.proofs.arena.Arena.names.Goals as goal

pub returns-then-count-len-clause-names : goal.returns-then-count-len-clause-names
returns-then-count-len-clause-names g c =
    of_both c.sorted_names.result _ _ _ c.sorted_names.ensures.permutation c.sorted_names.ensures.ascending
    (λ names moved ascending. rw (← c.self.view_is) (names_in_order _ _ _ _ _ _ _ _ _ _ c.self.invariant.0 names.items moved ascending))

pub returns-clause-names : goal.returns-clause-names
returns-clause-names g c =
    IfOk-weaker c.taken_names.result _ _ (λ names e. rw (← c.self.view_is) (e ∙ names_live _ _ _ _ _ _ _ _ _ _ c.self.invariant.0)) c.taken_names.ensures
