-- How the dual of an arena's map is built: first its darts, each free for every label, and then their neighbours. No public clause cites this module.
use Rattle.std.specs.Prelude.{◌≡◌, ◌≢◌, ℕ, ◌+◌, ◌-◌, ◌<◌, ◌≤◌, List, length, reverse, slice_index, Option, None}
use Rattle.std.specs.Option.{option_map}
use Rattle.std.specs.FinMap.{get}
use Rattle.gm_arena.specs.inner.ArenaMap.{ArenaMap, Dart, IsLiveName}
use Rattle.gm_arena.specs.inner.Edits.{free_dart}
use Rattle.gm_dual.specs.Duals.{dual_schema}

-- the dart of the name in the dual
abbrev pub dual_of : ArenaMap → ℕ → Option Dart
dual_of m name = option_map (λ (dart : Dart). record { alphas = reverse dart.alphas; values = dart.values }) (get m.darts name)

-- the same with no neighbour yet
abbrev pub free_of : ArenaMap → ℕ → Option Dart
free_of m name = option_map (λ (dart : Dart). free_dart m.schema.dim name dart.values) (get m.darts name)

-- the first names have darts, which are free, and no other name has one
pub record AreAdded (m : ArenaMap) (names : List ℕ) (p : ℕ) (a : ArenaMap) : Type 0 where
  pub schema_is : a.schema ≡ dual_schema m.schema
  pub added : (q : ℕ) → q < p → get a.darts (slice_index names q) ≡ free_of m (slice_index names q)
  pub none : (name : ℕ) → ((q : ℕ) → q < p → slice_index names q ≢ name) → get a.darts name ≡ None
  pub spare : length names ≤ a.spare + p
  pub reserved : m.next ≤ a.reserved

-- the first names have their darts, and the others free ones
pub record AreLinked (m : ArenaMap) (names : List ℕ) (p : ℕ) (a : ArenaMap) : Type 0 where
  pub schema_is : a.schema ≡ dual_schema m.schema
  pub linked : (q : ℕ) → q < p → get a.darts (slice_index names q) ≡ dual_of m (slice_index names q)
  pub free : (q : ℕ) → p ≤ q → q < length names → get a.darts (slice_index names q) ≡ free_of m (slice_index names q)
  pub none : (name : ℕ) → (IsLiveName m name → ⊥) → get a.darts name ≡ None

-- the dart has its neighbours along the labels that the first ones trade places with
pub record IsLinkedTo (n count : ℕ) (dart now : Dart) : Type 0 where
  pub values : now.values ≡ dart.values
  pub long : length now.alphas ≡ n + 1
  pub neighbours : (i : ℕ) → i < count → slice_index now.alphas (n - i) ≡ slice_index dart.alphas i

-- nothing but the dart of the name is another one
pub record IsAllBut (name : ℕ) (old new : ArenaMap) : Type 0 where
  pub rest : new ≡ record old { darts = new.darts }
  pub others : (other : ℕ) → other ≢ name → get new.darts other ≡ get old.darts other
