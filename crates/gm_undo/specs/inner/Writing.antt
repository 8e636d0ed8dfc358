-- What each stage of writing rows leaves of an arena's map. No public clause cites this module.
use Rattle.std.specs.Prelude.{◌≡◌, ◌≢◌, ℕ, ◌+◌, ◌<◌, ◌≤◌, if◌then◌else◌, false, List, length, Option, Some, None, IsSome, All, slice_index_or}
use Rattle.std.specs.FinMap.{get}
use Rattle.std.specs.Option.{option_map_or}
use Rattle.gm_arena.specs.inner.ArenaMap.{ArenaMap, Dart, IsLiveName}
use Rattle.gm_arena.specs.inner.Edits.{IsAlone, free_dart}
use Rattle.gm_arena.specs.inner.Lawful.{AreGoodValues}
use Rattle.gm_undo.specs.inner.Kept.{KeptRow}
use Rattle.gm_undo.specs.inner.Flat.{row_in}
use Rattle.gm_undo.specs.inner.Standing.{Rows, IsDartIn, AreSoundRows, HasRoomFor, rows_in}

-- the rows from the one number to the other
abbrev pub IsAmong : ℕ → ℕ → ℕ → Type 0
IsAmong start end k = (start ≤ k) × (k < end)

abbrev pub AreOnce : List KeptRow → ℕ → ℕ → Type 0
AreOnce rows start end = (k l : ℕ) → IsAmong start end k → IsAmong start end l → (row_in rows k).name ≡ (row_in rows l).name → k ≡ l

-- each of the rows has its dart in the map here, once, and tells whether it is in the map there
pub record AreRowsAt (rows : List KeptRow) (start end : ℕ) (here there : Rows) : Type 0 where
  pub rows_are : (k : ℕ) → IsAmong start end k → get here.darts (row_in rows k).name ≡ Some (row_in rows k).dart
  pub goes : (k : ℕ) → IsAmong start end k → (row_in rows k).stays ≡ false → get there.darts (row_in rows k).name ≡ None
  pub lasts : (k : ℕ) → IsAmong start end k → ((row_in rows k).stays ≡ false → ⊥) → IsDartIn there (row_in rows k).name
  pub once : AreOnce rows start end

-- no row is the dart's
abbrev pub IsOutside : List KeptRow → ℕ → ℕ → ℕ → Type 0
IsOutside rows start end d = (k : ℕ) → IsAmong start end k → d ≢ (row_in rows k).name

-- what holds of the dart of each of the rows, and each other dart is as it was
pub record IsWritten (Holds : KeptRow → Option Dart → Type 0) (rows : List KeptRow) (start end : ℕ) (old m : ArenaMap) : Type 0 where
  pub own : (k : ℕ) → IsAmong start end k → Holds (row_in rows k) (get m.darts (row_in rows k).name)
  pub others : (d : ℕ) → IsOutside rows start end d → get m.darts d ≡ get old.darts d

-- nothing but the darts is written
abbrev pub HasFrame : ArenaMap → ArenaMap → Type 0
HasFrame old m = m ≡ record old { darts = m.darts }

-- as much is live and spare together
pub record HasRoomOf (old m : ArenaMap) : Type 0 where
  pub schema : m.schema ≡ old.schema
  pub reserved : m.reserved ≡ old.reserved
  pub total : m.count + m.spare ≡ old.count + old.spare

-- ---- what holds of the dart of a row

-- it is its own neighbour
abbrev pub alpha_in : Option Dart → ℕ → ℕ → ℕ
alpha_in o i name = option_map_or (λ (dart : Dart). slice_index_or dart.alphas i name) o name

abbrev pub IsFreeRow : ℕ → KeptRow → Option Dart → Type 0
IsFreeRow dim row o = IsSome o × ((i : ℕ) → i ≤ dim → alpha_in o i row.name ≡ row.name)

-- it is gone, unless it stays
abbrev pub IsClearedRow : ArenaMap → KeptRow → Option Dart → Type 0
IsClearedRow old row o = o ≡ (if row.stays then get old.darts row.name else None)

-- it has come, unless it stayed
abbrev pub IsAddedRow : ArenaMap → KeptRow → Option Dart → Type 0
IsAddedRow old row o = o ≡ (if row.stays then get old.darts row.name else Some (free_dart old.schema.dim row.name row.dart.values))

abbrev pub IsOwnRow : KeptRow → Option Dart → Type 0
IsOwnRow row o = o ≡ Some row.dart

-- ---- what the stages need

-- each dart that goes is live, and no other's neighbour
abbrev pub CanGo : List KeptRow → ℕ → ℕ → ArenaMap → Type 0
CanGo rows start end m = (k : ℕ) → IsAmong start end k → (row_in rows k).stays ≡ false → IsLiveName m (row_in rows k).name × IsAlone m (row_in rows k).name

-- each dart that comes is new and has good values, and with them there are no more darts than there
pub record CanCome (rows : List KeptRow) (start end : ℕ) (m : ArenaMap) (there : Rows) : Type 0 where
  pub new : (k : ℕ) → IsAmong start end k → (row_in rows k).stays ≡ false → get m.darts (row_in rows k).name ≡ None
  pub values : (k : ℕ) → IsAmong start end k → AreGoodValues m.schema (row_in rows k).dart.values
  pub among : (k : ℕ) → IsAmong start end k → IsDartIn there (row_in rows k).name
  pub within : (d : ℕ) → IsLiveName m d → IsDartIn there d
  pub room : HasRoomFor m there

-- each dart is live, and so is each neighbour that it is to have
pub record CanLink (rows : List KeptRow) (start end : ℕ) (m : ArenaMap) : Type 0 where
  pub live : (k : ℕ) → IsAmong start end k → IsLiveName m (row_in rows k).name
  pub whole : (k : ℕ) → IsAmong start end k → length (row_in rows k).dart.alphas ≡ m.schema.dim + 1
  pub neighbours : (k : ℕ) → IsAmong start end k → All (IsLiveName m) (row_in rows k).dart.alphas
  pub values : (k : ℕ) → IsAmong start end k → AreGoodValues m.schema (row_in rows k).dart.values

-- what two maps differ in lies in two parts of the rows
pub record AreSidesAt (rows : List KeptRow) (from_start from_end to_start to_end : ℕ) (here there : Rows) : Type 0 where
  pub from : AreRowsAt rows from_start from_end here there
  pub to : AreRowsAt rows to_start to_end there here
  pub from_lasts : (k : ℕ) → IsAmong from_start from_end k → IsDartIn there (row_in rows k).name → IsOutside rows to_start to_end (row_in rows k).name → ⊥
  pub to_lasts : (k : ℕ) → IsAmong to_start to_end k → IsDartIn here (row_in rows k).name → IsOutside rows from_start from_end (row_in rows k).name → ⊥
  pub elsewhere : (d : ℕ) → IsOutside rows from_start from_end d → IsOutside rows to_start to_end d → get there.darts d ≡ get here.darts d

-- what writing the one side in the place of the other needs
pub record CanWrite (rows : List KeptRow) (from_start from_end to_start to_end : ℕ) (m : ArenaMap) (there : Rows) : Type 0 where
  pub sides : AreSidesAt rows from_start from_end to_start to_end (rows_in m) there
  pub sound : AreSoundRows m.schema there
  pub room : HasRoomFor m there
