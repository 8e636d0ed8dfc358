-- What a number of 64 bits, or one computed from such, is after its casts: itself.
use Rattle.std.proofs.Common.{◌≡◌, ◌≢◌, ◌≤◌, ◌^◌, unsigned_abs, ℤ, pos, negsuc, ◌*ℤ◌, ◌-ℤ◌, ◌<ℤ◌, ◌≤ℤ◌, neg_ℤ, int_lt, false, true, FitsSigned, Option, sym, subst, ap, ap₂, ◌∙◌, arith, w64, to_z, of_z}
use Rattle.std.specs.Int.{w128}
use Rattle.gm_eval.specs.inner.Made.{IsExact}
use Rattle.std.proofs.lemmas.Int.{fits_signed_mul, ints, to_z-of_z}

-- as the code passes a number of 64 bits to a function, as it widens one, and as it negates that
abbrev pub passed : ℤ → ℤ
passed x = to_z w64 (of_z w64 x)

abbrev pub kept : ℤ → ℤ
kept x = to_z w128 (of_z w128 x)

abbrev pub wide : ℤ → ℤ
wide x = kept (passed x)

pub wide_is : (x : ℤ) → FitsSigned w64 x → wide x ≡ x
wide_is x fits = omega (arith, ints)

pub opposite_is : (x : ℤ) → FitsSigned w64 x → kept (pos 0 -ℤ wide x) ≡ neg_ℤ x
opposite_is x fits = omega (arith, ints)

-- what an operation on two numbers gave
pub exact : (op : ℤ → ℤ → ℤ) (a b r : ℤ) → FitsSigned w64 a → FitsSigned w64 b → FitsSigned w128 r → r ≡ op (passed a) (passed b) → kept r ≡ op a b
exact op a b r fits_a fits_b fits e = to_z-of_z w128 r fits ∙ e ∙ ap₂ op (to_z-of_z w64 a fits_a) (to_z-of_z w64 b fits_b)

-- where it is in range
pub exactly : (op : ℤ → ℤ → ℤ) (a b : ℤ) (r : Option ℤ) → FitsSigned w64 a → FitsSigned w64 b → IsExact r (op (passed a) (passed b)) → IsExact r (op a b)
exactly op a b r fits_a fits_b h = subst (IsExact r) (ap₂ op (to_z-of_z w64 a fits_a) (to_z-of_z w64 b fits_b)) h

-- the sign of a divisor
pub below : (y : ℤ) → FitsSigned w64 y → y ≢ pos 0 → int_lt (pos 0) (passed y) ≡ false → y <ℤ pos 0
below y fits nonzero h = let same : int_lt (pos 0) y ≡ false = ap (int_lt (pos 0)) (sym (to_z-of_z w64 y fits)) ∙ h in grind (arith, ints)

-- the remainder of Euclid's quotient, negated
pub negated : (r : ℤ) → FitsSigned w128 r → pos 0 ≤ℤ r → kept (pos 0 -ℤ kept r) ≡ neg_ℤ r
negated r fits positive = omega (arith, ints)

-- the product of two numbers of 64 bits
at_most : (x : ℤ) → FitsSigned w64 x → unsigned_abs x ≤ 2 ^ 63
at_most (pos n) fits = omega (arith, ints, fits)
at_most (negsuc n) fits = omega (arith, ints, fits)

pub product_is : (x y : ℤ) → FitsSigned w64 x → FitsSigned w64 y → kept (wide x *ℤ wide y) ≡ x *ℤ y
product_is x y fits_x fits_y = ap₂ (λ u v. kept (u *ℤ v)) (wide_is x fits_x) (wide_is y fits_y) ∙ to_z-of_z w128 (x *ℤ y) (fits_signed_mul w128 x y (2 ^ 63) (2 ^ 63) (at_most x fits_x) (at_most y fits_y) (omega arith))

-- what is left of a number of 64 bits by a multiple
pub without_multiple : (x y q r : ℤ) → FitsSigned w64 x → FitsSigned w64 y → FitsSigned w64 q → FitsSigned w128 r → r ≡ passed y *ℤ passed q → wide x -ℤ kept r ≡ x -ℤ (y *ℤ q)
without_multiple x y q r fits_x fits_y fits_q fits_r e = ap₂ ◌-ℤ◌ (wide_is x fits_x) (to_z-of_z w128 r fits_r ∙ e ∙ ap₂ ◌*ℤ◌ (to_z-of_z w64 y fits_y) (to_z-of_z w64 q fits_q))

pub quotient_is : (op : ℤ → ℤ → ℤ) (x y q : ℤ) → FitsSigned w64 x → FitsSigned w64 y → q ≡ op (passed x) (passed y) → q ≡ op x y
quotient_is op x y q fits_x fits_y e = e ∙ ap₂ op (to_z-of_z w64 x fits_x) (to_z-of_z w64 y fits_y)

-- a positive number is so as it is passed
pub above : (y : ℤ) → FitsSigned w64 y → int_lt (pos 0) (passed y) ≡ true → pos 0 <ℤ y
above y fits h = let same : int_lt (pos 0) y ≡ true = ap (int_lt (pos 0)) (sym (to_z-of_z w64 y fits)) ∙ h in grind (arith, ints)
