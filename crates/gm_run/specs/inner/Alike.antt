-- When two maps are the same: what they hold at names without a dart doesn't count. And when two states of a run are.
use Rattle.std.specs.Prelude.{◌≡◌, ℕ, List, [], ◌∷◌, Option, Some, None}
use Rattle.gm_model.specs.declared.schema.Embed.{Embed}
use Rattle.gm_model.specs.Histories.{Group}
use Rattle.gm_model.specs.Maps.{Map, IsDart, IsEmbedAt, dimension}
use Rattle.gm_model.specs.Runs.{State}
use Rattle.gm_theory.specs.inner.Theorem.{Unfolded, AreSame}

-- the map without its schema and its values
abbrev pub unvalued : Map → Unfolded
unvalued map = record { live = map.live; alpha = map.alpha; next = map.next }

-- the same schema, the same darts, the same neighbours and values of each of them, and the same next name
pub record AreAlike (a b : Map) : Type 0 where
  pub schema : a.schema ≡ b.schema
  pub same : AreSame (dimension a) (unvalued a) (unvalued b)
  pub values : (e d : ℕ) (embed : Embed) → IsEmbedAt a.schema e embed → IsDart a d → a.value e d ≡ b.value e d

-- as many maps, each alike to the one at its place
abbrev pub AreAllAlike : List Map → List Map → Type 0
AreAllAlike [] [] = Unit {0}
AreAllAlike (a ∷ maps) (b ∷ others) = AreAlike a b × AreAllAlike maps others
AreAllAlike _ _ = ⊥

-- no group is open, or one is that began at maps alike, and in which something was done or nothing
abbrev pub AreAlikeGroups : Option Group → Option Group → Type 0
AreAlikeGroups None None = Unit {0}
AreAlikeGroups (Some a) (Some b) = AreAlike a.map b.map × (a.is_changed ≡ b.is_changed)
AreAlikeGroups _ _ = ⊥

pub record AreAlikeStates (a b : State) : Type 0 where
  pub map : AreAlike a.map b.map
  pub past : AreAllAlike a.history.past b.history.past
  pub future : AreAllAlike a.history.future b.history.future
  pub group : AreAlikeGroups a.history.group b.history.group
  pub broken : a.is_broken ≡ b.is_broken
