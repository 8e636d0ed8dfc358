-- The value of digits: it grows with each digit, and it is the number of a decimal text.
use Rattle.std.proofs.Common.{◌≡◌, ℕ, suc, ◌+◌, ◌-◌, ◌*◌, ◌^◌, ◌<◌, ◌≤◌, true, List, [], ◌∷◌, length, drop, get_or, sym, ap, ◌∙◌, arith}
use Rattle.std.specs.List.{list_all}
use Rattle.std.proofs.Math.Nat.{mul_assoc, pow-succ', pow-le-pow_right}
use Rattle.std.proofs.lemmas.Bool.{and_parts, leb-true}
use Rattle.std.proofs.lemmas.Nat.{mul-le}
use Rattle.std.proofs.lemmas.List.{drop_more, drop_all}
use Rattle.gm_model.specs.Tokens.{is_digit}
use Rattle.gm_model.specs.Symbols.{value_after, value_of}

-- a digit is one of ten bytes
pub record IsDigit (b : ℕ) : Type 0 where
  pub low : 48 ≤ b
  pub high : b ≤ 57

pub digit_bounds : (b : ℕ) → is_digit b ≡ true → IsDigit b
digit_bounds b h = let bounds = and_parts _ _ h in record { low = leb-true 48 b bounds.0; high = leb-true b 57 bounds.1 }

-- what was read before is within the value
pub value_after-grows : (n : ℕ) (digits : List ℕ) → n ≤ value_after n digits
value_after-grows n [] = omega arith
value_after-grows n (digit ∷ digits) = omega (arith, value_after-grows (n * 10 + (digit - 48)) digits)

-- the digits from a place on
pub record IsReadTo (digits : List ℕ) (place n : ℕ) : Type 0 where
  pub all_digits : list_all is_digit (drop place digits) ≡ true
  pub value : value_after n (drop place digits) ≡ value_of digits

pub record IsDigitThere (digits : List ℕ) (place n : ℕ) : Type 0 where
  pub low : 48 ≤ get_or digits place 0
  pub high : get_or digits place 0 ≤ 57
  pub next : IsReadTo digits (place + 1) (n * 10 + (get_or digits place 0 - 48))
  pub within : n * 10 + (get_or digits place 0 - 48) ≤ value_of digits

pub IsReadTo-more : (digits : List ℕ) (place n : ℕ) → place < length digits → IsReadTo digits place n → IsDigitThere digits place n
IsReadTo-more digits place n inside read =
    let digit = get_or digits place 0 in
    let split = drop_more digits place 0 inside in
    let tests = and_parts (is_digit digit) (list_all is_digit (drop (place + 1) digits)) (ap (list_all is_digit) (sym split) ∙ read.all_digits) in
    let bounds = digit_bounds digit tests.0 in
    let value : value_after (n * 10 + (digit - 48)) (drop (place + 1) digits) ≡ value_of digits = ap (value_after n) (sym split) ∙ read.value in
    record {
      low = bounds.low;
      high = bounds.high;
      next = record { all_digits = tests.1; value = value };
      within = omega (arith, value_after-grows (n * 10 + (digit - 48)) (drop (place + 1) digits));
    }

pub IsReadTo-all : (digits : List ℕ) (place n : ℕ) → length digits ≤ place → IsReadTo digits place n → n ≡ value_of digits
IsReadTo-all digits place n done read = ap (value_after n) (sym (drop_all place digits done)) ∙ read.value

-- digits are less than their number's power of ten
pub value_after-below : (n : ℕ) (digits : List ℕ) → list_all is_digit digits ≡ true → value_after n digits < (n + 1) * 10 ^ length digits
value_after-below n [] h = omega arith
value_after-below n (digit ∷ digits) h =
    let tests = and_parts (is_digit digit) (list_all is_digit digits) h in
    let high = (digit_bounds digit tests.0).high in
    let more = value_after-below (n * 10 + (digit - 48)) digits tests.1 in
    let power = 10 ^ length digits in
    let wide : (n * 10 + (digit - 48) + 1) * power ≤ ((n + 1) * 10) * power = mul-le (n * 10 + (digit - 48) + 1) power ((n + 1) * 10) power (omega arith) (omega arith) in
    let split : ((n + 1) * 10) * power ≡ (n + 1) * 10 ^ suc (length digits) = mul_assoc (n + 1) 10 power ∙ ap (λ m. (n + 1) * m) (sym (pow-succ' 10 (length digits))) in
    omega (arith, more, wide, split)

pub value_of-few : (digits : List ℕ) → list_all is_digit digits ≡ true → length digits ≤ 8 → value_of digits < 2 ^ 32
value_of-few digits h few =
    let power : 10 ^ length digits ≤ 10 ^ 8 = pow-le-pow_right (omega arith) few in
    omega (arith, value_after-below 0 digits h, power)
