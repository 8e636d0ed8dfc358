-- What a history stands for, beside the map in its arena: the maps to which undo and redo lead.
use Rattle.std.specs.Prelude.{◌≡◌, ◌≢◌, ℕ, ◌+◌, ◌<◌, ◌≤◌, true, false, nat_lt, List, [], ◌∷◌, length, Option, Some, None, IsSome, is_some, slice_get, All}
use Rattle.std.specs.Option.{unwrap_or}
use Rattle.std.specs.Ordering.{nat_cmp}
use Rattle.std.specs.FinMap.{FinMap, get, len, empty}
use Rattle.gm_model.specs.declared.schema.Schema.{Schema}
use Rattle.gm_model.specs.Histories.{Group, History}
use Rattle.gm_model.specs.Limits.{most_names}
use Rattle.gm_model.specs.Maps.{Map, IsSound}
use Rattle.gm_arena.specs.inner.ArenaAsMap.{as_map}
use Rattle.gm_arena.specs.inner.ArenaMap.{ArenaMap, Dart}
use Rattle.gm_arena.specs.inner.Lawful.{AreGoodValues}
use Rattle.gm_undo.specs.inner.Kept.{KeptRow, Change, HistoryOf}

-- ---- maps by their rows

-- the rows of a map, and its next name
pub record Rows : Type 0 where
  pub darts : FinMap nat_cmp Dart
  pub next : ℕ

abbrev pub rows_in : ArenaMap → Rows
rows_in m = record { darts = m.darts; next = m.next }

-- the map that has these rows
abbrev pub map_of : Schema → Rows → Map
map_of schema rows = as_map (record { schema = schema; darts = rows.darts; slots = empty; count = 0; next = rows.next; spare = 0; reserved = 0; bound = 0 })

abbrev pub IsDartIn : Rows → ℕ → Type 0
IsDartIn rows name = IsSome (get rows.darts name)

pub record IsGoodDart (schema : Schema) (rows : Rows) (name : ℕ) (dart : Dart) : Type 0 where
  -- a neighbour for each label, each of them a dart
  pub whole : length dart.alphas ≡ schema.dim + 1
  pub neighbours : All (IsDartIn rows) dart.alphas
  pub valued : AreGoodValues schema dart.values
  pub below_next : name < rows.next

-- they are those of a sound map
pub record AreSoundRows (schema : Schema) (rows : Rows) : Type 0 where
  pub dart : (name : ℕ) (dart : Dart) → get rows.darts name ≡ Some dart → IsGoodDart schema rows name dart
  pub few_names : rows.next ≤ most_names
  pub sound : IsSound (map_of schema rows)

-- and the arena has room for them
pub record HasRoomFor (m : ArenaMap) (rows : Rows) : Type 0 where
  pub darts : len rows.darts ≤ m.count + m.spare
  pub names : (name : ℕ) → IsDartIn rows name → name < m.reserved

-- ---- what a change changed

-- the kept rows are rows of the map here, each dart once, and each tells whether its dart is in the map there
pub record AreRowsOf (kept : List KeptRow) (here there : Rows) : Type 0 where
  pub rows : (k : ℕ) (row : KeptRow) → slice_get kept k ≡ Some row → get here.darts row.name ≡ Some row.dart
  pub stays : (k : ℕ) (row : KeptRow) → slice_get kept k ≡ Some row → row.stays ≡ is_some (get there.darts row.name)
  pub once : (k l : ℕ) (a b : KeptRow) → slice_get kept k ≡ Some a → slice_get kept l ≡ Some b → a.name ≡ b.name → k ≡ l

abbrev pub IsNoneOf : List KeptRow → ℕ → Type 0
IsNoneOf kept name = (k : ℕ) (row : KeptRow) → slice_get kept k ≡ Some row → name ≢ row.name

-- They are what two maps differ in: each dart whose row isn't the same in both has its rows.
pub record AreSides (own other : List KeptRow) (here there : Rows) : Type 0 where
  pub from : AreRowsOf own here there
  pub to : AreRowsOf other there here
  -- a dart that is in both maps has a row on both sides or on none
  pub from_lasts : (k : ℕ) (row : KeptRow) → slice_get own k ≡ Some row → IsDartIn there row.name → IsNoneOf other row.name → ⊥
  pub to_lasts : (k : ℕ) (row : KeptRow) → slice_get other k ≡ Some row → IsDartIn here row.name → IsNoneOf own row.name → ⊥
  pub elsewhere : (name : ℕ) → IsNoneOf own name → IsNoneOf other name → get there.darts name ≡ get here.darts name

-- the change leads from the one map to the other
pub record LeadsTo (change : Change) (old new : Rows) : Type 0 where
  pub sides : AreSides change.before change.after old new
  pub next_before : change.next_before ≡ old.next
  pub next_after : change.next_after ≡ new.next

-- ---- entries

-- whether an entry begins with the change of this number, or after the last one
pub record BeginsAt (changes : List Change) (k : ℕ) : Type 0 where
  pub within : k ≤ length changes
  pub begins : (change : Change) → slice_get changes k ≡ Some change → change.begins ≡ true

-- the changes from the one number to the other are one entry
pub record IsEntry (changes : List Change) (start end : ℕ) : Type 0 where
  pub some : start < end
  pub begins : BeginsAt changes start
  pub ends : BeginsAt changes end
  pub within : (k : ℕ) (change : Change) → start < k → k < end → slice_get changes k ≡ Some change → change.begins ≡ false

module _ {A : Type 0} (changes : List Change) (Tells : ℕ → ℕ → A → Type 0) where
  -- the list tells of the entries that end with this number, the last one first
  abbrev pub TellsBack : ℕ → List A → Type 0
  TellsBack end [] = end ≡ 0
  TellsBack end (x ∷ rest) = (start : ℕ) × IsEntry changes start end × Tells start end x × TellsBack start rest

  -- the list tells of the entries that begin with this number, the first one first
  abbrev pub TellsOn : ℕ → List A → Type 0
  TellsOn start [] = start ≡ length changes
  TellsOn start (x ∷ rest) = (end : ℕ) × IsEntry changes start end × Tells start end x × TellsOn end rest

-- the number at which the open group begins; where none is open, that of the changes made
abbrev pub group_start : HistoryOf → ℕ
group_start history = unwrap_or history.group history.made

-- ---- what the history stands for

-- The open group began with this number of changes, and with the map that has the rows there.
pub record IsGroupAt (schema : Schema) (history : HistoryOf) (rows : ℕ → Rows) (start : ℕ) (group : Group) : Type 0 where
  pub below : start ≤ history.made
  pub map : group.map ≡ map_of schema (rows start)
  pub changed : group.is_changed ≡ nat_lt start history.made
  -- where something was done in it, its changes are one entry, and the last ones
  pub one : start < history.made → IsEntry history.changes start history.made × (history.made ≡ length history.changes)

abbrev pub AreGroupsAlike : Schema → HistoryOf → (ℕ → Rows) → Option ℕ → Option Group → Type 0
AreGroupsAlike schema history rows None None = Unit {0}
AreGroupsAlike schema history rows (Some start) (Some group) = IsGroupAt schema history rows start group
AreGroupsAlike schema history rows _ _ = ⊥

-- The changes lead from rows to rows, each of a sound map for which the arena has room, and the arena has those of this
-- number.
pub record AreChained (changes : List Change) (m : ArenaMap) (rows : ℕ → Rows) (at : ℕ) : Type 0 where
  pub leads : (k : ℕ) (change : Change) → slice_get changes k ≡ Some change → LeadsTo change (rows k) (rows (k + 1))
  pub sound : (k : ℕ) → k ≤ length changes → AreSoundRows m.schema (rows k)
  pub room : (k : ℕ) → k ≤ length changes → HasRoomFor m (rows k)
  pub here : rows at ≡ rows_in m

-- the arena has the rows after the changes that are made, and those that are kept are of its maps
pub record AreHeld (history : HistoryOf) (m : ArenaMap) (rows : ℕ → Rows) : Type 0 where
  pub shape : 0 < length history.changes → (history.labels ≡ m.schema.dim + 1) × (history.width ≡ length m.schema.embeds)
  pub within : history.made ≤ length history.changes
  pub chained : AreChained history.changes m rows history.made

-- Beside this arena: the maps where entries begin that are made, and where those end that were taken back, are those to
-- which undo and redo lead.
pub record StandsFor (history : HistoryOf) (m : ArenaMap) (told : History) : Type 0 where
  -- the rows before each change, and after the last one
  pub rows : ℕ → Rows
  pub held : AreHeld history m rows
  -- no entry is cut by what is made
  pub whole : BeginsAt history.changes (group_start history)
  pub past : TellsBack history.changes (λ start end map. map ≡ map_of m.schema (rows start)) (group_start history) told.past
  pub future : TellsOn history.changes (λ start end map. map ≡ map_of m.schema (rows end)) history.made told.future
  pub group : AreGroupsAlike m.schema history rows history.group told.group
