-- The darts in ascending order of their names: which of them is the first from a number on.
use Rattle.std.specs.Prelude.{◌≡◌, ℕ, ◌<◌, ◌≤◌, None}
use Rattle.std.specs.FinMap.{get}
use Rattle.gm_arena.specs.inner.ArenaMap.{ArenaMap, IsAt}

-- no live name is the number or above
abbrev pub HasNoneFrom : ArenaMap → ℕ → Type 0
HasNoneFrom m from = (name : ℕ) → from ≤ name → get m.darts name ≡ None

-- at the slot is the live dart with the least name that isn't below the number
pub record IsFirstFrom (m : ArenaMap) (from slot : ℕ) : Type 0 where
  pub name : ℕ
  pub at : IsAt m slot name
  pub above : from ≤ name
  pub least : (other : ℕ) → from ≤ other → other < name → get m.darts other ≡ None
