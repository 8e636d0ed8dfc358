-- The map of a grid: m rows of m squares, each in the pattern of one square, joined along the sides that they share.
use Rattle.std.specs.Prelude.{◌≡◌, ◌↔◌, ℕ, ◌+◌, ◌*◌, ◌-◌, ◌<◌, ◌≤◌, nat_lt, ◌==◌, if◌then◌else◌, slice_index, [], ◌∷◌, codes, pos}
use Rattle.gm_model.specs.declared.schema.Embed.{Embed}
use Rattle.gm_model.specs.declared.schema.Schema.{Schema}
use Rattle.gm_model.specs.declared.value.Kind.TheVariants as kinds
use Rattle.gm_model.specs.declared.value.Value.{Value}
use Rattle.gm_model.specs.declared.value.Value.TheVariants.{Vec3}
use Rattle.gm_model.specs.Maps.{Map, IsDart}

-- points, one to each orbit over the labels 1 and 2
abbrev pub positions : Embed
positions = record { name = codes "pos"; mask = record { bits = 6 }; kind = kinds.Vec3 }

abbrev pub grid_schema : Schema
grid_schema = record { dim = 2; embeds = positions ∷ [] }

-- how many darts the grid has
abbrev pub dart_count : ℕ → ℕ
dart_count m = 8 * (m * m)

-- ---- one square

-- A square has the darts 0 to 7, two to each side: 0 and 1 on the side towards the row before, 2 and 3 on that towards the next column, 4 and 5 on that towards the next row, 6 and 7 on that towards the column before.

-- the other dart of the side
abbrev pub along : ℕ → ℕ
along k = slice_index (1 ∷ 0 ∷ 3 ∷ 2 ∷ 5 ∷ 4 ∷ 7 ∷ 6 ∷ []) k

-- the dart of the next side that meets this one at the corner
abbrev pub around : ℕ → ℕ
around k = slice_index (7 ∷ 2 ∷ 1 ∷ 4 ∷ 3 ∷ 6 ∷ 5 ∷ 0 ∷ []) k

-- the dart of the square beyond the side that meets this one
abbrev pub facing : ℕ → ℕ
facing k = slice_index (5 ∷ 4 ∷ 7 ∷ 6 ∷ 1 ∷ 0 ∷ 3 ∷ 2 ∷ []) k

-- how far the dart's corner lies towards the next column
abbrev pub corner_x : ℕ → ℕ
corner_x k = slice_index (0 ∷ 4 ∷ 4 ∷ 4 ∷ 4 ∷ 0 ∷ 0 ∷ 0 ∷ []) k

-- and towards the next row
abbrev pub corner_y : ℕ → ℕ
corner_y k = slice_index (0 ∷ 0 ∷ 0 ∷ 4 ∷ 4 ∷ 4 ∷ 4 ∷ 0 ∷ []) k

-- ---- squares in rows and columns, both counted from 0

-- the name of a dart of the square
abbrev pub dart : ℕ → ℕ → ℕ → ℕ → ℕ
dart m row column k = 8 * (row * m + column) + k

-- The dart that meets this one from the square beyond its side. On the border of the grid no square is there, and the dart is free.
abbrev pub across : ℕ → ℕ → ℕ → ℕ → ℕ
across m row column k =
    if nat_lt k 2 then if nat_lt 0 row then dart m (row - 1) column (facing k) else dart m row column k
    else if nat_lt k 4 then if nat_lt (column + 1) m then dart m row (column + 1) (facing k) else dart m row column k
    else if nat_lt k 6 then if nat_lt (row + 1) m then dart m (row + 1) column (facing k) else dart m row column k
    else if nat_lt 0 column then dart m row (column - 1) (facing k) else dart m row column k

-- the neighbour of a dart of the square: along the side, around the corner, across the seam
abbrev pub neighbour : ℕ → ℕ → ℕ → ℕ → ℕ → ℕ
neighbour m i row column k =
    if i == 0 then dart m row column (along k)
    else if i == 1 then dart m row column (around k)
    else across m row column k

-- the point at the dart's corner: the squares are 4 wide and 4 high, columns go along x and rows along y
abbrev pub point : ℕ → ℕ → ℕ → Value
point row column k = Vec3 (pos (4 * column + corner_x k)) (pos (4 * row + corner_y k)) (pos 0)

-- ---- the whole

-- the map is the grid of m rows of m squares
pub record IsGridMap (m : ℕ) (map : Map) : Type 0 where
  pub schema_is : map.schema ≡ grid_schema
  pub darts : (d : ℕ) → IsDart map d ↔ (d < dart_count m)
  pub neighbours : (row column k i : ℕ) → row < m → column < m → k < 8 → i ≤ 2 → map.alpha i (dart m row column k) ≡ neighbour m i row column k
  pub points : (row column k : ℕ) → row < m → column < m → k < 8 → map.value 0 (dart m row column k) ≡ point row column k
  pub next_is : map.next ≡ dart_count m
