-- Sums of the values at slots, by their components. No public clause cites this module.
use Rattle.std.specs.Prelude.{ℕ, ℤ, pos, ◌+ℤ◌, List, [], ◌∷◌, map, get_or, slice_index_or}
use Rattle.gm_model.specs.declared.value.Kind.{Kind}
use Rattle.gm_model.specs.declared.value.Kind.TheVariants.{Int, Bool, Vec2, Vec3, Rgb}
use Rattle.gm_model.specs.declared.value.Value.{Value}
use Rattle.gm_model.specs.Expressions.{components}
use Rattle.gm_arena.specs.declared.slot.Slot.{Slot}
use Rattle.gm_arena.specs.inner.ArenaAsMap.{value}
use Rattle.gm_arena.specs.inner.ArenaMap.{ArenaMap, name_at}

-- the component at a place, 0 where there is none
abbrev pub part : ℕ → Value → ℤ
part k v = slice_index_or (components v) k (pos 0)

-- as many numbers as a value of the kind has components
abbrev pub parts_for : Kind → ℤ → ℤ → ℤ → List ℤ
parts_for Int x y z = x ∷ []
parts_for Bool x y z = []
parts_for Vec2 x y z = x ∷ y ∷ []
parts_for Vec3 x y z = x ∷ y ∷ z ∷ []
parts_for Rgb x y z = x ∷ y ∷ z ∷ []

-- the exact sum
abbrev pub sum_of : List ℤ → ℤ
sum_of [] = pos 0
sum_of (x ∷ xs) = x +ℤ sum_of xs

-- one component of an embedding's value at a slot, and at each of them
abbrev pub part_at : ArenaMap → ℕ → ℕ → Slot → ℤ
part_at m e k slot = part k (value m e (name_at m slot.at))

abbrev pub parts_at : ArenaMap → ℕ → ℕ → List Slot → List ℤ
parts_at m e k slots = map (part_at m e k) slots

-- an embedding's number at the first of the slots
abbrev pub first_at : ArenaMap → ℕ → List Slot → ℤ
first_at m e slots = part_at m e 0 (get_or slots 0 (record { at = 0 }))
