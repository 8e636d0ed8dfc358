-- What the answer of a search in ascending order says.
use Rattle.std.specs.Prelude.{ℕ, ◌<◌, ◌≤◌}

-- no number from `start` on has P
abbrev pub HasNoneFrom : (ℕ → Type 0) → ℕ → Type 0
HasNoneFrom P start = (x : ℕ) → start ≤ x → P x → ⊥

-- the least number from `start` on that has P
pub record IsFirstFrom (P : ℕ → Type 0) (start found : ℕ) : Type 0 where
  pub from : start ≤ found
  pub has : P found
  pub before : (x : ℕ) → start ≤ x → x < found → P x → ⊥
