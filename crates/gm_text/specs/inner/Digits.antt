-- Digits that are looked at in one, as numbers.
use Rattle.std.specs.Prelude.{◌≡◌, ℕ, ◌+◌, ◌*◌, ◌-◌, ◌%◌, ◌≤◌, Bool, not, nat_le, List, [], ◌∷◌, length}
use Rattle.std.specs.Simd.Lanes.{Each1, number_l}

-- what a byte is as a digit, or more than 9 where it is none
abbrev pub digit_of : ℕ → ℕ
digit_of b = (b + (256 - 48)) % 256

abbrev pub is_small : ℕ → Bool
is_small digit = not (nat_le 10 digit)

-- the number that the digits make after those of this number
abbrev pub number_behind : ℕ → List ℕ → ℕ
number_behind n [] = n
number_behind n (digit ∷ digits) = number_behind (n * 10 + digit) digits

-- the word has these eight digits, the first in its lowest byte
pub record HasDigits (word : ℕ) (digits : List ℕ) : Type 0 where
  pub eight : length digits ≡ 8
  pub small : Each1 (λ digit. digit ≤ 9) digits
  pub word_is : word ≡ number_l 256 digits
