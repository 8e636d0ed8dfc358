use Rattle.std.proofs.Common.{◌≡◌, ℕ, ◌<◌, IsTrue, slice_get, slice_index_or, Some, pos}
use Rattle.gm_model.specs.declared.schema.Embed.{Embed}
use Rattle.gm_model.specs.declared.value.Value.TheVariants.{Int}
use Rattle.gm_model.specs.Labels.{has}
use Rattle.gm_laws.proofs.holding.are_same_along.Given as goal

-- none so far differs
abbrev pub invariant-loop-embed : goal.invariant-loop-embed
invariant-loop-embed l = IsTrue l.same → (e : ℕ) (embed : Embed) → e < l.embed → slice_get l.embeds e ≡ Some embed → IsTrue (has embed.mask l.label) → slice_index_or l.others e (Int (pos 0)) ≡ slice_index_or l.values e (Int (pos 0))
