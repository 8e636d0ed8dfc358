-- The numbers below a bound that have a property, in ascending order. No public clause cites this module.
use Rattle.std.specs.Prelude.{ℕ, ◌<◌, ◌↔◌, List, length, get_or}
use Rattle.std.specs.List.{Contains}

-- the list has each number below n of which P holds, and no other
pub record IsAscendingOf (P : ℕ → Type 0) (n : ℕ) (ds : List ℕ) : Type 0 where
  pub same : (d : ℕ) → Contains ds d ↔ ((d < n) × P d)
  pub rising : (p q : ℕ) → p < q → q < length ds → get_or ds p 0 < get_or ds q 0
