-- What contracts see of the standard output.
use Rattle.std.specs.Prelude.{ℕ}

-- how many puts there were, and how many of them failed
pub record Counts : Type 0 where
  pub puts : ℕ
  pub faults : ℕ
