-- The walk along a word or a mask, by the names of the darts.
use Rattle.std.specs.Prelude.{ℕ, ◌≤◌, List, [], ◌∷◌, map, length, All, slice_get, unwrap_or}
use Rattle.std.specs.List.{filter}
use Rattle.std.specs.Option.{option_map}
use Rattle.gm_model.specs.declared.word.Letter.{Letter}
use Rattle.gm_model.specs.declared.word.Letter.TheVariants.{At, Gone}
use Rattle.gm_model.specs.declared.word.Mask.{Mask}
use Rattle.gm_model.specs.Labels.{has}
use Rattle.gm_model.specs.Orbits.{IsWalkTo}
use Rattle.gm_model.specs.Rules.{label_of}
use Rattle.gm_arena.specs.declared.slot.Slot.{Slot}
use Rattle.gm_arena.specs.inner.ArenaMap.{ArenaMap, IsLiveSlot, name_at, alpha}

-- the letter is a label up to n
abbrev pub IsLabelUpTo : ℕ → Letter → Type 0
IsLabelUpTo n (At i) = i ≤ n
IsLabelUpTo n Gone = ⊥

-- each letter of the word is a label up to n
abbrev pub IsWord : ℕ → List Letter → Type 0
IsWord n word = All (IsLabelUpTo n) word

-- the labels of a mask, ascending
abbrev pub labels_of : Mask → List ℕ
labels_of mask = filter (has mask) (0 ∷ 1 ∷ 2 ∷ 3 ∷ 4 ∷ 5 ∷ 6 ∷ 7 ∷ [])

abbrev pub letters_of : Mask → List Letter
letters_of mask = map At (labels_of mask)

-- the label at a place of the word
abbrev pub label_at : List Letter → ℕ → ℕ
label_at word place = unwrap_or (option_map label_of (slice_get word place)) 0

-- the neighbour at a place of the word
abbrev pub along : ArenaMap → List Letter → ℕ → ℕ → ℕ
along m word d place = alpha m (label_at word place) d

-- the names of the darts at the slots
abbrev pub names_of : ArenaMap → List Slot → List ℕ
names_of m slots = map (λ (s : Slot). name_at m s.at) slots

abbrev pub AreLive : ArenaMap → List Slot → Type 0
AreLive m slots = All (λ (s : Slot). IsLiveSlot m s.at) slots

-- the walk from d as far as the dart at q, before which each dart's places were followed
abbrev pub IsWalkedTo : ArenaMap → List Letter → ℕ → ℕ → List Slot → Type 0
IsWalkedTo m word d q slots = IsWalkTo (along m word) (length word) d q 0 (names_of m slots)
