-- The quotient that rounds down leaves a remainder that is 0 or has the divisor's sign, and is smaller than the divisor.
use Rattle.std.proofs.Common.{ℕ, zero, suc, ◌<◌, ℤ, pos, negsuc, ◌-ℤ◌, ◌*ℤ◌, ◌≤ℤ◌, ◌<ℤ◌, arith}
use Rattle.std.proofs.lemmas.Int.{ints}
use Rattle.gm_model.specs.Expressions.{floor}

-- what is left of a where q times b is taken away
abbrev pub left_over : ℤ → ℤ → ℤ
left_over a b = a -ℤ (b *ℤ floor a b)

pub floor_positive : (a : ℤ) (b : ℕ) → 0 < b → (pos 0 ≤ℤ left_over a (pos b)) × (left_over a (pos b) <ℤ pos b)
floor_positive (pos a) b h = omega (arith, ints)
floor_positive (negsuc a) b h = omega (arith, ints)

pub floor_negative : (a : ℤ) (b : ℕ) → (negsuc b <ℤ left_over a (negsuc b)) × (left_over a (negsuc b) ≤ℤ pos 0)
floor_negative (pos zero) b = omega (arith, ints)
floor_negative (pos (suc a)) b = omega (arith, ints)
floor_negative (negsuc a) b = omega (arith, ints)
