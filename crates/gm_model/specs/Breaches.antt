-- Which breach of the laws of a map is the first, by law, and then by dart and label.
use Rattle.std.specs.Prelude.{◌≡◌, ◌≢◌, ℕ, ◌+◌, ◌<◌, ◌≤◌, ◌⊎◌, IsTrue}
use Rattle.gm_model.specs.declared.schema.Embed.{Embed}
use Rattle.gm_model.specs.declared.schema.Schema.{Schema}
use Rattle.gm_model.specs.declared.value.Value.{Value}
use Rattle.gm_model.specs.Labels.{has}
use Rattle.gm_model.specs.Maps.{IsEmbedAt}
use Rattle.gm_model.specs.Orbits.{IsPairBefore}

-- (d, i, j) comes before (d', i', j')
abbrev pub IsTripleBefore : ℕ → ℕ → ℕ → ℕ → ℕ → ℕ → Type 0
IsTripleBefore d i j d' i' j' = (d < d') ⊎ ((d ≡ d') × IsPairBefore i j i' j')

-- Over any notion of dart and neighbour, with n the dimension.
module _ (n : ℕ) (IsLive : ℕ → Type 0) (alpha : ℕ → ℕ → ℕ) where
  -- the first dart and label whose neighbour is no dart
  pub record IsFirstWithoutTarget (d i : ℕ) : Type 0 where
    pub live : IsLive d
    pub label : i ≤ n
    pub fails : IsLive (alpha i d) → ⊥
    pub before : (e j : ℕ) → IsPairBefore e j d i → IsLive e → j ≤ n → IsLive (alpha j e)

  -- each neighbour points back
  abbrev pub PointBack : Type 0
  PointBack = (d i : ℕ) → IsLive d → i ≤ n → alpha i (alpha i d) ≡ d

  -- the first dart and label whose neighbour does not point back
  pub record IsFirstOneWay (d i : ℕ) : Type 0 where
    pub live : IsLive d
    pub label : i ≤ n
    pub fails : alpha i (alpha i d) ≢ d
    pub before : (e j : ℕ) → IsPairBefore e j d i → IsLive e → j ≤ n → alpha j (alpha j e) ≡ e

  -- distant labels commute
  abbrev pub Commute : Type 0
  Commute = (d i j : ℕ) → IsLive d → i + 2 ≤ j → j ≤ n → alpha i (alpha j d) ≡ alpha j (alpha i d)

  -- where all neighbours point back, the first dart and pair of distant labels that do not commute
  pub record IsFirstCrossing (d i j : ℕ) : Type 0 where
    pub back : PointBack
    pub live : IsLive d
    pub apart : i + 2 ≤ j
    pub label : j ≤ n
    pub fails : alpha i (alpha j d) ≢ alpha j (alpha i d)
    pub before : (e k l : ℕ) → IsTripleBefore e k l d i j → IsLive e → k + 2 ≤ l → l ≤ n → alpha k (alpha l e) ≡ alpha l (alpha k e)

  module _ (schema : Schema) (value : ℕ → ℕ → Value) where
    -- the neighbours of a dart along the labels of an embedding's type have its value
    abbrev pub IsSharedAlong : ℕ → Embed → ℕ → ℕ → Type 0
    IsSharedAlong e embed d l = l ≤ n → IsTrue (has embed.mask l) → value e (alpha l d) ≡ value e d

    -- each does, of each embedding
    abbrev pub AreShared : Type 0
    AreShared = (e : ℕ) (embed : Embed) (d l : ℕ) → IsEmbedAt schema e embed → IsLive d → IsSharedAlong e embed d l

    -- where the other laws hold, the first embedding, dart and label at which one does not
    pub record IsFirstUnshared (e d l : ℕ) : Type 0 where
      pub back : PointBack
      pub commute : Commute
      pub embed : Embed
      pub embed_at : IsEmbedAt schema e embed
      pub live : IsLive d
      pub label : l ≤ n
      pub of_type : IsTrue (has embed.mask l)
      pub fails : value e (alpha l d) ≢ value e d
      pub before : (e' d' l' : ℕ) (embed' : Embed) → IsTripleBefore e' d' l' e d l → IsEmbedAt schema e' embed' → IsLive d' → IsSharedAlong e' embed' d' l'
