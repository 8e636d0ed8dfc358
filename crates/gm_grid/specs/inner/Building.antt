-- How far an arena has the darts of a grid, which go by name: free at first, and then linked to their neighbours.
use Rattle.std.specs.Prelude.{◌≡◌, ℕ, ◌+◌, ◌/◌, ◌%◌, ◌<◌, ◌≤◌, [], ◌∷◌, Some, None}
use Rattle.std.specs.FinMap.{get}
use Rattle.gm_model.specs.declared.value.Value.{Value}
use Rattle.gm_arena.specs.inner.ArenaMap.{ArenaMap, Dart}
use Rattle.gm_arena.specs.inner.Edits.{free_dart}
use Rattle.gm_grid.specs.GridMap.{grid_schema, dart_count, neighbour, point}

-- ---- a dart by its name

abbrev pub row_of : ℕ → ℕ → ℕ
row_of m d = d / 8 / m

abbrev pub column_of : ℕ → ℕ → ℕ
column_of m d = d / 8 % m

-- its number in its square
abbrev pub number_of : ℕ → ℕ
number_of d = d % 8

abbrev pub neighbour_of : ℕ → ℕ → ℕ → ℕ
neighbour_of m i d = neighbour m i (row_of m d) (column_of m d) (number_of d)

abbrev pub point_of : ℕ → ℕ → Value
point_of m d = point (row_of m d) (column_of m d) (number_of d)

-- the dart with its point, free for every label
abbrev pub free_of : ℕ → ℕ → Dart
free_of m d = free_dart 2 d (point_of m d ∷ [])

-- the dart with its point and its neighbours
abbrev pub linked_of : ℕ → ℕ → Dart
linked_of m d = record { alphas = neighbour_of m 0 d ∷ neighbour_of m 1 d ∷ neighbour_of m 2 d ∷ []; values = point_of m d ∷ [] }

-- ---- the arena

-- it has the darts below this one, free, and room for the others
pub record AreAdded (m upto : ℕ) (a : ArenaMap) : Type 0 where
  pub schema_is : a.schema ≡ grid_schema
  pub added : (d : ℕ) → d < upto → get a.darts d ≡ Some (free_of m d)
  pub none : (d : ℕ) → upto ≤ d → get a.darts d ≡ None
  pub next_is : a.next ≡ upto
  pub spare : dart_count m ≤ a.spare + upto
  pub reserved : dart_count m ≤ a.reserved

-- it has all darts, those below this one linked and the others free
pub record AreLinked (m upto : ℕ) (a : ArenaMap) : Type 0 where
  pub schema_is : a.schema ≡ grid_schema
  pub linked : (d : ℕ) → d < upto → get a.darts d ≡ Some (linked_of m d)
  pub free : (d : ℕ) → upto ≤ d → d < dart_count m → get a.darts d ≡ Some (free_of m d)
  pub none : (d : ℕ) → dart_count m ≤ d → get a.darts d ≡ None
  pub next_is : a.next ≡ dart_count m
