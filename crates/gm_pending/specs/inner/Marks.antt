-- How reached darts are kept. No public clause cites this module.
use Rattle.std.specs.Prelude.{◌≡◌, ◌≢◌, ℕ, ◌+◌, ◌/◌, ◌%◌, ◌<◌, ◌≤◌, ◌⊎◌, List, [], ◌∷◌, ◌++◌, Option, Some, None, IfSome, slice_get}
use Rattle.std.specs.Int.{bit_at}
use Rattle.std.specs.List.{Contains}
use Rattle.gm_walk.specs.declared.at.At.{At}
use Rattle.gm_walk.specs.declared.mark.Mark.{Mark}
use Rattle.gm_walk.specs.inner.Keys.{key_of}

-- the bit, of 64, that stands for the dart of a key; others may have the same one
abbrev pub bit_of : ℕ → ℕ
bit_of key = (key / 2 + key / 128) % 64

-- reached over an arc of this label, if over any
abbrev pub reached_by : At → ℕ → Option ℕ → Mark
reached_by at k over = record { at = at; instance = k; over = over }

-- indices by the numbers of darts
abbrev pub ByKey : Type 0
ByKey = ℕ → Option ℕ

-- an entry of the list has this key
abbrev pub HasKey : List Mark → ℕ → Type 0
HasKey reached key = (entry : Mark) × Contains reached entry × (key_of entry.at ≡ key)

-- and this index
abbrev pub IsMarkedBy : List Mark → ℕ → ℕ → Type 0
IsMarkedBy reached key k = (entry : Mark) × Contains reached entry × (key_of entry.at ≡ key) × (entry.instance ≡ k)

-- the dart was added, unless an entry had its key
abbrev pub IsMarkedMore : List Mark → List Mark → At → ℕ → Option ℕ → Type 0
IsMarkedMore before after at k over = (HasKey before (key_of at) × (after ≡ before)) ⊎ ((HasKey before (key_of at) → ⊥) × (after ≡ before ++ reached_by at k over ∷ []))

abbrev pub HasDistinctKeys : List Mark → Type 0
HasDistinctKeys reached = (k l : ℕ) (a b : Mark) → k < l → slice_get reached k ≡ Some a → slice_get reached l ≡ Some b → key_of a.at ≢ key_of b.at

-- each entry has its index there, by its key
pub record IsIndex (reached : List Mark) (by_key : ByKey) : Type 0 where
  pub marked : (entry : Mark) → Contains reached entry → by_key (key_of entry.at) ≡ Some entry.instance
  pub only : (key k : ℕ) → by_key key ≡ Some k → IsMarkedBy reached key k

-- the bit of each dart is set
abbrev pub AreSeen : List Mark → ℕ → Type 0
AreSeen reached bits = (entry : Mark) → Contains reached entry → bit_at bits (bit_of (key_of entry.at)) ≡ 1

-- each key comes once; and where there is an index, it has all of them
pub record AreMarked (reached : List Mark) (by_key : Option ByKey) (bits : ℕ) : Type 0 where
  pub distinct : HasDistinctKeys reached
  pub indexed : IfSome by_key (IsIndex reached)
  pub seen : AreSeen reached bits

-- Up to this many entries there is room, and no index.
abbrev pub IsQuick : {I : Type 0} → ℕ → ℕ → Option I → Type 0
IsQuick quick capacity index = (quick ≤ capacity) × (0 < quick → index ≡ None)
