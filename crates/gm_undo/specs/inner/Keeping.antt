-- What rows are kept of an application. No public clause cites this module.
use Rattle.std.specs.Prelude.{◌≡◌, ℕ, ◌+◌, ◌-◌, ◌<◌, ◌≤◌, true, false, List, length, Some, is_some, slice_index_or}
use Rattle.std.specs.FinMap.{get}
use Rattle.gm_arena.specs.declared.slot.Slot.{Slot}
use Rattle.gm_arena.specs.inner.ArenaMap.{ArenaMap, IsLiveName, name_at}
use Rattle.gm_undo.specs.inner.Flat.{RowsOf, row_in}
use Rattle.gm_undo.specs.inner.Writing.{AreOnce}

-- the shape stays, and there are as many rows more
pub record HasMoreRows (old new : RowsOf) : Type 0 where
  pub labels : new.labels ≡ old.labels
  pub width : new.width ≡ old.width
  pub room : new.room ≡ old.room
  pub long : length old.rows ≤ length new.rows

-- after the old rows stands one for each slot, none of which stays as yet
pub record AreTouchedKept (m : ArenaMap) (slots : List Slot) (old new : RowsOf) : Type 0 where
  pub more : HasMoreRows old new
  pub count : length new.rows ≡ length old.rows + length slots
  pub before : (k : ℕ) → k < length old.rows → row_in new.rows k ≡ row_in old.rows k
  pub rows : (k : ℕ) → k < length slots → get m.darts (row_in new.rows (length old.rows + k)).name ≡ Some (row_in new.rows (length old.rows + k)).dart
  pub names : (k : ℕ) → k < length slots → (row_in new.rows (length old.rows + k)).name ≡ name_at m (slice_index_or slots k (record { at = 0 })).at
  pub stays : (k : ℕ) → k < length slots → (row_in new.rows (length old.rows + k)).stays ≡ false

-- Of the rows from `first` to `end`, which are the last of the old ones, each tells whether its dart is in the arena, and
-- after them stand the rows of those that are.
pub record AreBehindKept (m : ArenaMap) (first end : ℕ) (old new : RowsOf) : Type 0 where
  pub more : HasMoreRows old new
  pub few : length new.rows ≤ end + (end - first)
  pub before : (k : ℕ) → k < first → row_in new.rows k ≡ row_in old.rows k
  pub names : (k : ℕ) → first ≤ k → k < end → (row_in new.rows k).name ≡ (row_in old.rows k).name
  pub darts : (k : ℕ) → first ≤ k → k < end → (row_in new.rows k).dart ≡ (row_in old.rows k).dart
  pub stays : (k : ℕ) → first ≤ k → k < end → (row_in old.rows k).stays ≡ false → (row_in new.rows k).stays ≡ is_some (get m.darts (row_in old.rows k).name)
  pub rows : (j : ℕ) → end ≤ j → j < length new.rows → get m.darts (row_in new.rows j).name ≡ Some (row_in new.rows j).dart
  pub stay : (j : ℕ) → end ≤ j → j < length new.rows → (row_in new.rows j).stays ≡ true
  pub from : (j : ℕ) → end ≤ j → j < length new.rows → (k : ℕ) × (first ≤ k) × (k < end) × ((row_in old.rows k).name ≡ (row_in new.rows j).name)
  pub all : (k : ℕ) → first ≤ k → k < end → IsLiveName m (row_in old.rows k).name → (j : ℕ) × (end ≤ j) × (j < length new.rows) × ((row_in new.rows j).name ≡ (row_in old.rows k).name)
  pub once : AreOnce old.rows first end → AreOnce new.rows end (length new.rows)

-- after the old rows stand those of this many darts from the name on
pub record AreAddedKept (m : ArenaMap) (first added : ℕ) (old new : RowsOf) : Type 0 where
  pub more : HasMoreRows old new
  pub count : length new.rows ≡ length old.rows + added
  pub before : (k : ℕ) → k < length old.rows → row_in new.rows k ≡ row_in old.rows k
  pub names : (number : ℕ) → number < added → (row_in new.rows (length old.rows + number)).name ≡ first + number
  pub rows : (number : ℕ) → number < added → get m.darts (first + number) ≡ Some (row_in new.rows (length old.rows + number)).dart
  pub stays : (number : ℕ) → number < added → (row_in new.rows (length old.rows + number)).stays ≡ false
