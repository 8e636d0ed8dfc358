-- When a dart is its own neighbour, by its slot.
use Rattle.std.proofs.Common.{◌≡◌, ◌≢◌, ℕ, ◌+◌, ◌<◌, ◌≤◌, List, [], ◌∷◌, ◌++◌, Some, length, refl, sym, ap, ◌∙◌, subst, inl, inr}
use Rattle.std.proofs.lemmas.Bool.{cases_eq}
use Rattle.std.proofs.lemmas.List.{length_push}
use Rattle.gm_arena.specs.declared.slot.Slot.{Slot}
use Rattle.gm_arena.specs.inner.ArenaAsMap.{as_map}
use Rattle.gm_arena.specs.inner.ArenaMap.{ArenaMap, IsAt, IsLiveName, alpha, name_at}
use Rattle.gm_arena.specs.inner.InOrder.{HasNoneFrom, IsFirstFrom}
use Rattle.gm_arena.specs.inner.Lawful.{IsLawful}
use Rattle.gm_arena.proofs.MapLemmas.{name_at-is}
use Rattle.gm_cells.specs.inner.Ascending.{IsAscendingOf}
use Rattle.gm_cells.specs.Cells.{HasFree}
use Rattle.gm_cells.proofs.Ascending.{all_of, next_has, next_not, none_below}
use Rattle.gm_cells.proofs.InOrder.{below_all, name_up, none_between}

some_same : (x y : ℕ) → Some x ≡ Some y → x ≡ y
some_same x y e = cc

module _ (m : ArenaMap) (i d : ℕ) (slot to : Slot) (at : IsAt m slot.at d) (next : IsAt m to.at (alpha m i (name_at m slot.at))) where
  pub next_at : IsAt m to.at (alpha m i d)
  next_at = let P : ℕ → Type 0 = λ x. IsAt m to.at (alpha m i x) in subst P (name_at-is m slot.at d at) next

  -- the neighbour's slot is the dart's
  pub is_free : to.at ≡ slot.at → alpha m i d ≡ d
  is_free e = some_same _ _ (sym (subst (λ s. IsAt m s (alpha m i d)) e next_at) ∙ at)

  -- and so the other way
  pub not_free : IsLawful m → alpha m i d ≡ d → to.at ≡ slot.at
  not_free lawful e = lawful.one_slot slot.at to.at d at (next_at ∙ ap Some e)

-- ---- how many are free

-- a live dart that is its own neighbour along i
abbrev pub IsFree : ArenaMap → ℕ → ℕ → Type 0
IsFree m i d = IsLiveName m d × (alpha m i d ≡ d)

-- so many of those below the number
abbrev pub AreFree : ArenaMap → ℕ → ℕ → ℕ → Type 0
AreFree m i from count = (ds : List ℕ) × IsAscendingOf (IsFree m i) from ds × (length ds ≡ count)

pub none_free : (m : ArenaMap) (i : ℕ) → AreFree m i 0 0
none_free m i = ([], none_below (IsFree m i), refl)

-- with the next dart
pub free_next : (m : ArenaMap) (lawful : IsLawful m) (from : ℕ) (slot to : Slot) (name i old new : ℕ) → IsAt m slot.at name → IsFirstFrom m from slot.at → IsAt m to.at (alpha m i (name_at m slot.at))
    → (to.at ≡ slot.at → new ≡ old + 1) → (to.at ≢ slot.at → new ≡ old) → AreFree m i from old → AreFree m i (name + 1) new
free_next m lawful from slot to name i old new at first next own other before = elim (cases_eq to.at slot.at) [
  | inl e ↦ (
    before.0 ++ name ∷ [],
    next_has (IsFree m i) from name before.0 up between (lawful.live slot.at name at, is_free m i name slot to at next e) before.1,
    length_push before.0 name ∙ ap (λ n. n + 1) before.2 ∙ sym (own e),
  )
  | inr moves ↦ (
    before.0,
    next_not (IsFree m i) from name before.0 up between (λ free. moves (not_free m i name slot to at next lawful free.1)) before.1,
    before.2 ∙ sym (other moves),
  )
]
  where
    up : from ≤ name
    up = name_up m from slot.at name at first

    between : (d : ℕ) → from ≤ d → d < name → IsFree m i d → ⊥
    between d low high free = none_between m from slot.at name at first d low high free.0

-- and all of them
pub all_free : (m : ArenaMap) (from i count : ℕ) → HasNoneFrom m from → AreFree m i from count → HasFree (as_map m) i count
all_free m from i count none free = (free.0, all_of (IsFree m i) from free.0 (λ d one. below_all m from none d one.0) free.1, free.2)
