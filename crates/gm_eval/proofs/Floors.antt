-- The quotient that is rounded down, and what it leaves, by the quotient of Euclid.
use Rattle.std.proofs.Common.{◌≡◌, zero, suc, ℤ, pos, negsuc, ◌-ℤ◌, ◌*ℤ◌, ◌<ℤ◌, neg_ℤ, refl, FitsSigned, w64, arith}
use Rattle.std.specs.Int.{int_div_euclid, int_rem_euclid, w128}
use Rattle.std.proofs.lemmas.Int.{ints}
use Rattle.std.proofs.lemmas.Nat.{div-add-mod', mod_below}
use Rattle.gm_model.specs.Expressions.{floor}

pub floor_below : (x y : ℤ) → y <ℤ pos 0 → int_div_euclid (neg_ℤ x) (neg_ℤ y) ≡ floor x y
floor_below (pos zero) (negsuc b) h = omega (arith, ints, div-add-mod' 0 (suc b))
floor_below (pos (suc a)) (negsuc b) h = refl
floor_below (negsuc a) (negsuc b) h = refl
floor_below x (pos b) h = absurd (omega (arith, ints))

pub rest_below : (x y : ℤ) → y <ℤ pos 0 → neg_ℤ (int_rem_euclid (neg_ℤ x) (neg_ℤ y)) ≡ x -ℤ (y *ℤ floor x y)
rest_below (pos zero) (negsuc b) h = omega (arith, ints, div-add-mod' 0 (suc b))
rest_below (pos (suc a)) (negsuc b) h = omega (arith, ints, div-add-mod' a (suc b), mod_below a (suc b))
rest_below (negsuc a) (negsuc b) h = omega (arith, ints, div-add-mod' (suc a) (suc b), mod_below (suc a) (suc b))
rest_below x (pos b) h = absurd (omega (arith, ints))

-- by a positive number, what it leaves is a number of 64 bits where that is one
pub rest_fits : (x y : ℤ) → pos 0 <ℤ y → FitsSigned w64 y → FitsSigned w128 (x -ℤ (y *ℤ floor x y))
rest_fits (pos a) (pos (suc b)) some fits = omega (arith, ints, fits, div-add-mod' a (suc b), mod_below a (suc b))
rest_fits (negsuc a) (pos (suc b)) some fits = omega (arith, ints, fits, div-add-mod' a (suc b), mod_below a (suc b))
rest_fits x (pos zero) some fits = absurd (omega (arith, ints, some))
rest_fits x (negsuc b) some fits = absurd (omega (arith, ints, some))
