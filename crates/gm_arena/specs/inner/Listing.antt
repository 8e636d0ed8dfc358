-- How the table from names to slots is kept: the slots listed one after another, or none of them. No public clause cites this module.
use Rattle.std.specs.Prelude.{◌≡◌, ℕ, ◌-◌, ◌≤◌, List, [], ◌++◌, length, replicate, Bool, if◌then◌else◌, IsTrue, IsFalse}
use Rattle.std.specs.List.{range_with_len}
use Rattle.gm_arena.specs.inner.Inside.{no_slot}

-- of `len` names the first `taken` have the slots of their own numbers, and the others none
abbrev pub even : ℕ → ℕ → List ℕ
even taken len = range_with_len 0 taken ++ replicate (len - taken) no_slot

-- the slots that a table has
abbrev pub listing : Bool → List ℕ → ℕ → ℕ → List ℕ
listing listed slots taken len = if listed then slots else even taken len

pub record IsListed (listed : Bool) (slots : List ℕ) (capacity taken len : ℕ) : Type 0 where
  pub long : IsTrue listed → length slots ≡ len
  pub none : IsFalse listed → slots ≡ []
  pub few : IsFalse listed → taken ≤ len
  pub room : IsFalse listed → len ≤ capacity
