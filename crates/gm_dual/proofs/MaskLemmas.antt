-- Masks and their duals.
use Rattle.std.proofs.Common.{◌≡◌, ℕ, zero, suc, ◌+◌, ◌*◌, ◌/◌, ◌%◌, ◌^◌, ◌<◌, ◌≤◌, Bool, true, false, if◌then◌else◌, IsTrue, refl, sym, ap, subst, ◌∙◌, inl, inr, arith, ◌-◌, ap₂}
use mir.Val.{bool_byte}
use Rattle.std.specs.Prelude.{◌==◌}
use Rattle.std.proofs.lemmas.Bool.{cases_lt, false≢true, eq-eqb}
use Rattle.std.proofs.lemmas.Nat.Bits.{bit_at_above, bit_at_cat_low, bit_at_lowest, bit_at-lt, bit_at-suc, same_from_bits}
use Rattle.std.proofs.Math.Nat.{pow-succ'}
use Rattle.gm_model.specs.declared.word.Mask.{Mask}
use Rattle.gm_model.specs.Labels.{has}
use Rattle.gm_dual.specs.Duals.{bits_from, dual_label, dual_mask}
use Rattle.gm_dual.proofs.LabelLemmas.{dual_above, dual_most, dual_twice}

abbrev bit : Bool → ℕ
bit b = if b then 1 else 0

low : (b : Bool) (q : ℕ) → ((bit b + 2 * q) % 2 == 1) ≡ b
low true q = let e : (1 + 2 * q) % 2 ≡ 1 = omega arith in ap (λ k. k == 1) e
low false q = let e : (0 + 2 * q) % 2 ≡ 0 = omega arith in ap (λ k. k == 1) e

high : (b : Bool) (q : ℕ) → (bit b + 2 * q) / 2 ≡ q
high true q = omega arith
high false q = omega arith

-- a bit of the number is the truth that it stands for
pub bits_are : (f : ℕ → Bool) (count i k : ℕ) → k < count → has (record { bits = bits_from f count i }) k ≡ f (i + k)
bits_are f zero i k h = absurd (omega arith)
bits_are f (suc count) i zero h = let e : bits_from f (suc count) i / 2 ^ 0 % 2 ≡ bits_from f (suc count) i % 2 = bit_at_lowest (bits_from f (suc count) i) in ap (λ b. b == 1) e ∙ (low (f i) (bits_from f count (suc i)) ∙ ap f (omega arith))
bits_are f (suc count) i (suc k) h =
    let e = bit_at-suc (bits_from f (suc count) i) k in
    ap (λ b. b == 1) e ∙ (ap (λ q. (q / 2 ^ k % 2) == 1) (high (f i) (bits_from f count (suc i))) ∙ (bits_are f count (suc i) k (omega (arith, h)) ∙ ap f (omega arith)))

pub bits_few : (f : ℕ → Bool) (count i : ℕ) → bits_from f count i < 2 ^ count
bits_few f zero i = omega arith
bits_few f (suc count) i = go (f i) (bits_few f count (suc i))
  where
    twice : 2 ^ suc count ≡ 2 * 2 ^ count
    twice = pow-succ' 2 count

    go : (b : Bool) → bits_from f count (suc i) < 2 ^ count → bit b + 2 * bits_from f count (suc i) < 2 ^ suc count
    go true h = omega (arith, h, twice)
    go false h = omega (arith, h, twice)

-- no label above 7 is in a mask of eight bits
pub none_above : (mask : Mask) → mask.bits < 256 → (i : ℕ) → 8 ≤ i → has mask i ≡ false
none_above mask few i h = ap (λ b. b == 1) (bit_at_above mask.bits 8 i few h)

-- and a mask without labels above 7 has eight bits
pub few_bits : (mask : Mask) → ((i : ℕ) → IsTrue (has mask i) → i ≤ 7) → mask.bits < 256
few_bits mask labels =
    let a = mask.bits / 256 in
    let b = mask.bits % 256 in
    let less : b < 256 = omega arith in
    let split : mask.bits ≡ a * 2 ^ 8 + b = omega arith in
    let same : mask.bits ≡ b = same_from_bits mask.bits b (λ i. elim (cases_lt i 8) [
      | inl l ↦ ap (λ k. k / 2 ^ i % 2) split ∙ bit_at_cat_low a 8 b i l
      | inr l ↦ absent i l ∙ sym (bit_at_above b 8 i less l)
    ]) in
    omega (arith, same, less)
  where
    absent : (i : ℕ) → 8 ≤ i → mask.bits / 2 ^ i % 2 ≡ 0
    absent i l = elim (cases_lt (mask.bits / 2 ^ i % 2) 1) [
      | inl none ↦ omega arith
      | inr some ↦ (let one : mask.bits / 2 ^ i % 2 ≡ 1 = (let most = bit_at-lt mask.bits i in omega (arith, most, some)) in let within = labels i (eq-eqb (mask.bits / 2 ^ i % 2) 1 one) in absurd (omega (arith, within, l)))
    ]

-- masks with the same labels are the same
pub same_mask : (a b : Mask) → ((i : ℕ) → has a i ≡ has b i) → a ≡ b
same_mask a b same = ap (λ bits. record { bits = bits }) (same_from_bits a.bits b.bits (λ i. same_bit (a.bits / 2 ^ i % 2) (b.bits / 2 ^ i % 2) (bit_at-lt a.bits i) (bit_at-lt b.bits i) (same i)))
  where
    same_bit : (x y : ℕ) → x < 2 → y < 2 → (x == 1) ≡ (y == 1) → x ≡ y
    same_bit zero zero h k e = refl
    same_bit zero (suc zero) h k e = absurd (false≢true e)
    same_bit (suc zero) zero h k e = absurd (false≢true (sym e))
    same_bit (suc zero) (suc zero) h k e = refl
    same_bit zero (suc (suc y)) h k e = absurd (omega arith)
    same_bit (suc zero) (suc (suc y)) h k e = absurd (omega arith)
    same_bit (suc (suc x)) y h k e = absurd (omega arith)

module _ (n : ℕ) (most : n ≤ 7) where
  pub dual_few : (mask : Mask) → (dual_mask n mask).bits < 256
  dual_few mask = bits_few (λ i. has mask (dual_label n i)) 8 0

  -- the dual has the duals of the labels
  pub has_dual : (mask : Mask) → mask.bits < 256 → (i : ℕ) → has (dual_mask n mask) i ≡ has mask (dual_label n i)
  has_dual mask few i = elim (cases_lt i 8) [
    | inl l ↦ bits_are (λ i. has mask (dual_label n i)) 8 0 i l ∙ ap (λ k. has mask (dual_label n k)) (omega arith)
    | inr l ↦ none_above (dual_mask n mask) (dual_few mask) i l ∙ (sym (none_above mask few i l) ∙ ap (has mask) (sym (dual_above n i (omega (arith, most, l)))))
  ]

  pub dual_mask_twice : (mask : Mask) → mask.bits < 256 → dual_mask n (dual_mask n mask) ≡ mask
  dual_mask_twice mask few = same_mask (dual_mask n (dual_mask n mask)) mask (λ i. has_dual (dual_mask n mask) (dual_few mask) i ∙ (has_dual mask few (dual_label n i) ∙ ap (has mask) (dual_twice n i)))

  -- labels up to n have duals up to n
  pub dual_labels : (mask : Mask) → mask.bits < 256 → ((i : ℕ) → IsTrue (has mask i) → i ≤ n) → (i : ℕ) → IsTrue (has (dual_mask n mask) i) → i ≤ n
  dual_labels mask few labels i h = let there = labels (dual_label n i) (sym (has_dual mask few i) ∙ h) in subst (λ k. k ≤ n) (dual_twice n i) (dual_most n (dual_label n i) there)

-- one more bit in front
pub bits_more : (f : ℕ → Bool) (bits k : ℕ) (b : Bool) → k < 8 → bits ≡ bits_from f k (8 - k) → b ≡ f (7 - k) → 2 * bits + bool_byte b ≡ bits_from f (k + 1) (8 - (k + 1))
bits_more f bits k b h is same =
    let next : suc (7 - k) ≡ 8 - k = omega (arith, h) in
    let whole : bits ≡ bits_from f k (suc (7 - k)) = is ∙ ap (bits_from f k) (sym next) in
    let one : bool_byte b ≡ bit (f (7 - k)) = byte b ∙ ap bit same in
    let start : 8 - (k + 1) ≡ 7 - k = omega arith in
    let more : k + 1 ≡ suc k = omega arith in
    let sum : 2 * bits + bool_byte b ≡ bits_from f (suc k) (7 - k) = omega (arith, ap (λ x. 2 * x) whole, one) in
    sum ∙ ap₂ (bits_from f) (sym more) (sym start)
  where
    byte : (b : Bool) → bool_byte b ≡ bit b
    byte true = refl
    byte false = refl
