-- What taking the innermost frame away leaves.
use Rattle.std.specs.Prelude.{◌≡◌, ℕ, true, false, nat_le, List, ◌∷◌, Option, Some, None}
use Rattle.gm_tree.specs.inner.Building.{Frame, least_in, least_of, is_bracket, is_at_bracket}

-- the first, where its operand's least level is above the level
abbrev pub TakesAbove : ℕ → List Frame → Option Frame → List Frame → Type 0
TakesAbove level old (Some first) new = (old ≡ first ∷ new) × (nat_le (least_in first) level ≡ false)
TakesAbove level old None new = (new ≡ old) × (nat_le (least_of old) level ≡ true)

-- the first, where it is no bracket
abbrev pub TakesShut : List Frame → Option Frame → List Frame → Type 0
TakesShut old (Some first) new = (old ≡ first ∷ new) × (is_bracket first ≡ false)
TakesShut old None new = (new ≡ old) × (is_at_bracket old ≡ true)
