use Rattle.std.proofs.Common.{◌≡◌, ◌≢◌, ◌<◌, ℕ, Some}
use Rattle.std.specs.List.{slice_get}
use Rattle.gm_model.specs.declared.rule.Set.{Set}
use Rattle.gm_embcheck.proofs.assignments.sets_embed.Given as goal

abbrev pub invariant-loop-set : goal.invariant-loop-set
invariant-loop-set l = (k : ℕ) (s : Set) → k < l.set-index → slice_get l.sets k ≡ Some s → s.embed ≢ l.embed
