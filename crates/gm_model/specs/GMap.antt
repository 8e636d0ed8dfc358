-- What a generalised map is (Lienhardt): darts, and for each label an involution on them, where labels that differ by two or more commute.
use Rattle.std.specs.Prelude.{◌≡◌, ℕ, ◌+◌, ◌≤◌, ◌==◌, List, Option, IsSome, slice_index_or, find}
use Rattle.std.specs.Option.{option_map_or}

-- over any notion of dart and neighbour: n is the dimension, the labels are 0 to n
pub record IsGMap (n : ℕ) (IsLive : ℕ → Type 0) (alpha : ℕ → ℕ → ℕ) : Type 0 where
  -- each neighbour is a dart
  pub stays : (d i : ℕ) → IsLive d → i ≤ n → IsLive (alpha i d)
  -- and points back
  pub back : (d i : ℕ) → IsLive d → i ≤ n → alpha i (alpha i d) ≡ d
  -- distant labels commute
  pub commutes : (d i j : ℕ) → IsLive d → i + 2 ≤ j → j ≤ n → alpha i (alpha j d) ≡ alpha j (alpha i d)

-- ---- as a list of rows

-- a dart: its name, and its neighbours by label
pub record Row : Type 0 where
  pub name : ℕ
  pub alphas : List ℕ

-- the row of a name: the first that has it
abbrev pub row_of : List Row → ℕ → Option Row
row_of rows d = find (λ (row : Row). row.name == d) rows

abbrev pub IsLive : List Row → ℕ → Type 0
IsLive rows d = IsSome (row_of rows d)

-- the neighbour of d along a label; d itself where there is none
abbrev pub alpha : List Row → ℕ → ℕ → ℕ
alpha rows i d = option_map_or (λ (row : Row). slice_index_or row.alphas i d) (row_of rows d) d
