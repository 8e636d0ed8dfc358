-- How many cells, components and free darts a map has.
use Rattle.std.specs.Prelude.{◌≡◌, ℕ, ◌+◌, ◌≤◌, ◌==◌, ◌&&◌, not, leb, List, length, slice_index}
use Rattle.gm_cells.specs.declared.counts.Counts.{Counts}
use Rattle.gm_model.specs.Maps.{Map, IsDart, dimension}
use Rattle.gm_model.specs.Orbits.{Labels, HasCount, HasOrbits}

-- the labels of a map of dimension n
abbrev pub labels_to : ℕ → Labels
labels_to n = λ i. leb i n

-- those but one
abbrev pub labels_but : ℕ → ℕ → Labels
labels_but n i = λ j. leb j n && not (j == i)

-- this many orbits over all labels but i
abbrev pub HasCellsOf : Map → ℕ → ℕ → Type 0
HasCellsOf map i count = HasOrbits (IsDart map) map.alpha (labels_but (dimension map) i) count

-- this many darts are their own neighbour along i
abbrev pub HasFree : Map → ℕ → ℕ → Type 0
HasFree map i count = HasCount (λ d. IsDart map d × (map.alpha i d ≡ d)) count

-- one number for each label
pub record AreByLabel (n : ℕ) (Is : ℕ → ℕ → Type 0) (counts : List ℕ) : Type 0 where
  pub one_each : length counts ≡ n + 1
  pub each : (i : ℕ) → i ≤ n → Is i (slice_index counts i)

abbrev pub HasCells : Map → List ℕ → Type 0
HasCells map cells = AreByLabel (dimension map) (HasCellsOf map) cells

abbrev pub HasFreeDarts : Map → List ℕ → Type 0
HasFreeDarts map free = AreByLabel (dimension map) (HasFree map) free

-- the numbers are those of the map
pub record AreCounts (map : Map) (counts : Counts) : Type 0 where
  pub darts : HasCount (IsDart map) counts.darts
  pub cells : HasCells map counts.cells
  pub components : HasOrbits (IsDart map) map.alpha (labels_to (dimension map)) counts.components
  pub free : HasFreeDarts map counts.free
