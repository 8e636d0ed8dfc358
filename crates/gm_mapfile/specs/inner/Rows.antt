-- The darts that an arena holds as a list, and the darts of which numbers and values are the lines.
use Rattle.std.specs.Prelude.{ℕ, zero, suc, ◌+◌, ◌/◌, List, [], ◌∷◌, map, length, take, drop}
use Rattle.std.specs.FinMap.{entries}
use Rattle.gm_model.specs.declared.schema.Schema.{Schema}
use Rattle.gm_model.specs.declared.value.Value.{Value}
use Rattle.gm_model.specs.GMap.{Row}
use Rattle.gm_arena.specs.inner.ArenaMap.{ArenaMap, Dart}
use Rattle.gm_mapfile.specs.MapText.{DartRow, ListedMap}

abbrev pub dart_of_entry : ℕ × Dart → DartRow
dart_of_entry e = record { name = e.0; alphas = e.1.alphas; values = e.1.values }

-- the darts of an arena, in ascending order of their names
abbrev pub darts_of : ArenaMap → List DartRow
darts_of m = map dart_of_entry (entries m.darts)

-- the map in an arena, its darts in ascending order of their names
abbrev pub listed_of : ArenaMap → ListedMap
listed_of m = record { schema = m.schema; darts = darts_of m; next = m.next }

-- ---- darts written as numbers and values

-- a line is a name and its neighbours
abbrev pub row_in : List ℕ → Row
row_in [] = record { name = 0; alphas = [] }
row_in (name ∷ alphas) = record { name = name; alphas = alphas }

-- the rows of this many lines, each of n + 2 numbers
abbrev pub rows_from : ℕ → ℕ → List ℕ → List Row
rows_from n zero numbers = []
rows_from n (suc count) numbers = row_in (take (n + 2) numbers) ∷ rows_from n count (drop (n + 2) numbers)

-- the rows of all whole lines
abbrev pub rows_in : ℕ → List ℕ → List Row
rows_in n numbers = rows_from n (length numbers / (n + 2)) numbers

-- the row with values
abbrev pub valued : Row → List Value → DartRow
valued row values = record { name = row.name; alphas = row.alphas; values = values }

-- the darts of the rows, each with this many values
abbrev pub darts_from : ℕ → List Row → List Value → List DartRow
darts_from width [] values = []
darts_from width (row ∷ rows) values = valued row (take width values) ∷ darts_from width rows (drop width values)

-- the darts of all whole lines, each with a value of each embedding
abbrev pub darts_in : Schema → List ℕ → List Value → List DartRow
darts_in schema numbers values = darts_from (length schema.embeds) (rows_in schema.dim numbers) values
