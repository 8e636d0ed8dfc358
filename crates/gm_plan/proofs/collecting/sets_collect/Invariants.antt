use Rattle.std.proofs.Common.{◌≡◌, ◌<◌, ℕ, false, Some}
use Rattle.std.specs.List.{slice_get}
use Rattle.gm_model.specs.declared.rule.Set.{Set}
use Rattle.gm_model.specs.Trees.{tree_of}
use Rattle.gm_plan.specs.inner.Collecting.{collects}
use Rattle.gm_plan.proofs.collecting.sets_collect.Given as goal

-- no earlier assignment to the embedding collects
abbrev pub invariant-loop-set : goal.invariant-loop-set
invariant-loop-set l = (k : ℕ) (s : Set) → k < l.set-index → slice_get l.sets k ≡ Some s → s.embed ≡ l.embed → collects (tree_of s.expr) ≡ false
