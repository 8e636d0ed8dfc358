-- Bytes that are compared at once: as many are the same as stand before the first that isn't.
use Rattle.std.proofs.Common.{◌≡◌, ℕ, zero, suc, ◌+◌, ◌^◌, ◌≤◌, ◌<◌, ◌%◌, Bool, true, false, not, cond, eqb, w8, List, [], ◌∷◌, length, map, take, refl, sym, ap, ◌∙◌, arith}
use Rattle.std.proofs.lemmas.Bool.{eqb-true}
use Rattle.std.proofs.lemmas.Simd.{tops_compared, length-zip2, mask_l-mod, leading_from_mask_l, trailing_mask_l}
use Rattle.std.specs.List.{prefix_len}
use lib.Lanes.{zip2, mask_l, top}
use lib.Count.{count_trailing_zeros}

abbrev pub differs : ℕ → ℕ → Bool
differs a b = not (eqb a b)

-- where the bytes differ
abbrev pub others : List ℕ → List ℕ → List Bool
others xs ys = zip2 differs xs ys

by_themselves : (ms : List Bool) → map (λ m. m) ms ≡ ms
by_themselves [] = refl
by_themselves (m ∷ ms) = ap (λ l. m ∷ l) (by_themselves ms)

module _ (xs ys : List ℕ) (long : length xs ≡ 16) (same : length xs ≡ length ys) where
  others_long : length (others xs ys) ≡ 16
  others_long = length-zip2 differs xs ys same ∙ long

  abbrev pub mask : ℕ
  mask = mask_l (map (top 7) (zip2 (λ a b. cond (differs a b) 255 0) xs ys)) % 2 ^ 64

  mask_is : mask ≡ mask_l (map (λ m. m) (others xs ys))
  mask_is =
      ap (λ ms. mask_l ms % 2 ^ 64) (tops_compared w8 differs xs ys) ∙ mask_l-mod (others xs ys) 64 (omega (arith, others_long)) ∙ ap mask_l (sym (by_themselves (others xs ys)))

  pub all_same : mask ≡ 0 → prefix_len (λ m. not m) (others xs ys) ≡ 16
  all_same none = leading_from_mask_l (λ m. m) (others xs ys) (sym mask_is ∙ none) ∙ others_long

  pub first_other : 0 < mask → count_trailing_zeros 64 mask ≡ prefix_len (λ m. not m) (others xs ys)
  first_other some = ap (count_trailing_zeros 64) mask_is ∙ trailing_mask_l (λ m. m) 64 (others xs ys) (omega (arith, others_long)) (omega (arith, mask_is, some))

pub alike : (xs ys : List ℕ) (size : ℕ) → size ≤ prefix_len (λ m. not m) (others xs ys) → take size xs ≡ take size ys
alike xs ys zero le = refl
alike [] ys (suc size) le = absurd (omega (arith, le))
alike (x ∷ xs) [] (suc size) le = absurd (omega (arith, le))
alike (x ∷ xs) (y ∷ ys) (suc size) le =
    by (eqb x y) refl le (alike xs ys size)
  where
    by : (b : Bool) → eqb x y ≡ b → suc size ≤ cond (not (not b)) (1 + prefix_len (λ m. not m) (others xs ys)) 0 → (size ≤ prefix_len (λ m. not m) (others xs ys) → take size xs ≡ take size ys) → take (suc size) (x ∷ xs) ≡ take (suc size) (y ∷ ys)
    by true e few later = rw (eqb-true x y e) (ap (λ l. y ∷ l) (later (omega (arith, few))))
    by false e few later = absurd (omega (arith, few))
