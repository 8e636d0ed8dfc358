-- The measures of the functions that read parts of an expression are above those of the functions that they call.
use Rattle.std.proofs.Common.{◌≡◌, ℕ, ◌+◌, ◌*◌, ◌<◌, ◌≤◌, max, arith}

pub part_less : (a t : ℕ) → 4 * a + 2 ≡ t → 4 * a + 1 < t
part_less a t e = omega (arith, e)

pub parts_less : (n t : ℕ) → 4 * n + 3 ≡ t → 4 * n + 2 < t
parts_less n t e = omega (arith, e)

-- of two parts
pub left_less : (a b t : ℕ) → 4 * max a b + 2 ≡ t → 4 * a + 1 < t
left_less a b t e = omega (arith, e)

pub right_less : (a b t : ℕ) → 4 * max a b + 2 ≡ t → 4 * b + 1 < t
right_less a b t e = omega (arith, e)

pub quick_left_less : (a b t : ℕ) → 4 * max a b + 3 ≡ t → 4 * a + 2 < t
quick_left_less a b t e = omega (arith, e)

pub quick_right_less : (a b t : ℕ) → 4 * max a b + 3 ≡ t → 4 * b + 1 < t
quick_right_less a b t e = omega (arith, e)

-- of three
pub first_less : (a b c t : ℕ) → 4 * max a (max b c) + 2 ≡ t → 4 * a + 1 < t
first_less a b c t e = omega (arith, e)

pub second_less : (a b c t : ℕ) → 4 * max a (max b c) + 2 ≡ t → 4 * b + 1 < t
second_less a b c t e = omega (arith, e)

pub third_less : (a b c t : ℕ) → 4 * max a (max b c) + 2 ≡ t → 4 * c + 1 < t
third_less a b c t e = omega (arith, e)

-- the scratch has room where it had so much
pub still_fits : {bound a b : ℕ} → bound ≤ a → b ≡ a → bound ≤ b
still_fits fits e = omega (arith, fits, e)

-- the forms, by the sizes of their boxes and of what these point to
pub unary_less : (whole p q t : ℕ) → 4 * whole ≡ t → whole ≡ max 0 (max p 0) + 1 → q ≡ p → 4 * q + 2 < t
unary_less whole p q t e size f = omega (arith, e, size, f)

pub binary_less : (whole p r q u t : ℕ) → 4 * whole ≡ t → whole ≡ max 0 (max p (max r 0)) + 1 → q ≡ p → u ≡ r → 4 * max q u + 3 < t
binary_less whole p r q u t e size f g = rw (f, g) (omega (arith, e, size))

pub nested_less : (whole p r q u t : ℕ) → 4 * whole + 2 ≡ t → whole ≡ max 0 (max p (max r 0)) + 1 → q ≡ p → u ≡ r → 4 * max q u + 3 < t
nested_less whole p r q u t e size f g = rw (f, g) (omega (arith, e, size))

pub pair_less : (whole p r q u t : ℕ) → 4 * whole ≡ t → whole ≡ max p (max r 0) + 1 → q ≡ p → u ≡ r → 4 * max q u + 2 < t
pair_less whole p r q u t e size f g = rw (f, g) (omega (arith, e, size))

pub triple_less : (whole p r s q u v t : ℕ) → 4 * whole ≡ t → whole ≡ max p (max r (max s 0)) + 1 → q ≡ p → u ≡ r → v ≡ s → 4 * max q (max u v) + 2 < t
triple_less whole p r s q u v t e size f g h = rw (f, g, h) (omega (arith, e, size))
