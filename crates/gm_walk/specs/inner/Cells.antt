-- How a list has rows of one width, one after another.
use Rattle.std.specs.Prelude.{◌≡◌, ℕ, ◌+◌, ◌*◌, ◌<◌, List, length, Some, slice_get}

-- the row begins with an entry for each column, of which P holds
abbrev pub IsRow : {X : Type 0} → (ℕ → X → Type 0) → ℕ → List X → Type 0
IsRow {X = X} P width row = (x : ℕ) → x < width → (v : X) × (slice_get row x ≡ Some v) × P x v

-- the list has an entry for each row and column, of which P holds
pub record AreCells {X : Type 0} (P : ℕ → ℕ → X → Type 0) (rows width : ℕ) (list : List X) : Type 0 where
  pub long : rows * width ≡ length list
  pub each : (p x : ℕ) → p < rows → x < width → (v : X) × (slice_get list (p * width + x) ≡ Some v) × P p x v

-- each entry that the list has is that of its row and column
abbrev pub AreFirstCells : {X : Type 0} → (ℕ → ℕ → X → Type 0) → ℕ → List X → Type 0
AreFirstCells {X = X} P width list = (p x : ℕ) → x < width → p * width + x < length list → (v : X) × (slice_get list (p * width + x) ≡ Some v) × P p x v
