-- The laws of a map at one dart, and what the first of several is that breaks one. No public clause cites this module.
use Rattle.std.specs.Prelude.{◌≡◌, ℕ, ◌+◌, ◌<◌, ◌≤◌, IsTrue}
use Rattle.gm_model.specs.declared.word.Mask.{Mask}
use Rattle.gm_model.specs.Labels.{has}
use Rattle.gm_arena.specs.inner.ArenaMap.{ArenaMap, IsLiveName, alpha}
use Rattle.gm_arena.specs.inner.ArenaAsMap.{value}

-- x is the first of its kind that is not good
pub record IsFirst (IsOne IsGood : ℕ → Type 0) (x : ℕ) : Type 0 where
  pub one : IsOne x
  pub fails : IsGood x → ⊥
  pub before : (y : ℕ) → y < x → IsOne y → IsGood y

abbrev pub IsLabel : ArenaMap → ℕ → Type 0
IsLabel m i = i ≤ m.schema.dim

-- ---- neighbours lead back

abbrev pub LeadsBack : ArenaMap → ℕ → ℕ → Type 0
LeadsBack m d i = alpha m i (alpha m i d) ≡ d

abbrev pub IsBack : ArenaMap → ℕ → Type 0
IsBack m d = (i : ℕ) → IsLabel m i → LeadsBack m d i

-- ---- distant labels commute

-- j is a label at least two above i
abbrev pub IsDistantLabel : ArenaMap → ℕ → ℕ → Type 0
IsDistantLabel m i j = (i + 2 ≤ j) × IsLabel m j

abbrev pub Commute : ArenaMap → ℕ → ℕ → ℕ → Type 0
Commute m d i j = alpha m i (alpha m j d) ≡ alpha m j (alpha m i d)

abbrev pub CommutesWith : ArenaMap → ℕ → ℕ → Type 0
CommutesWith m d i = (j : ℕ) → IsDistantLabel m i j → Commute m d i j

abbrev pub Commutes : ArenaMap → ℕ → Type 0
Commutes m d = (i : ℕ) → IsLabel m i → CommutesWith m d i

-- the first two distant labels that do not commute at the dart
abbrev pub IsFirstPair : ArenaMap → ℕ → ℕ × ℕ → Type 0
IsFirstPair m d pair = IsFirst (IsLabel m) (CommutesWith m d) pair.0 × IsFirst (IsDistantLabel m pair.0) (Commute m d pair.0) pair.1

-- ---- an embedding has one value along the labels of its orbits

-- a label of the map that is in the mask
abbrev pub IsOrbitLabel : ArenaMap → Mask → ℕ → Type 0
IsOrbitLabel m mask i = IsLabel m i × IsTrue (has mask i)

-- the neighbour along the label has the dart's value of embedding e
abbrev pub HasSame : ArenaMap → ℕ → ℕ → ℕ → Type 0
HasSame m e d i = value m e (alpha m i d) ≡ value m e d

abbrev pub IsAlike : ArenaMap → ℕ → Mask → ℕ → Type 0
IsAlike m e mask d = (i : ℕ) → IsOrbitLabel m mask i → HasSame m e d i

abbrev pub AreAlike : ArenaMap → ℕ → Mask → Type 0
AreAlike m e mask = (d : ℕ) → IsLiveName m d → IsAlike m e mask d

-- the first dart that differs from a neighbour along a label of the mask, and the first such neighbour
abbrev pub IsFirstUnlike : ArenaMap → ℕ → Mask → ℕ × ℕ → Type 0
IsFirstUnlike m e mask pair =
    (i : ℕ) × IsFirst (IsLiveName m) (IsAlike m e mask) pair.0 × IsFirst (IsOrbitLabel m mask) (HasSame m e pair.0) i × (pair.1 ≡ alpha m i pair.0)
