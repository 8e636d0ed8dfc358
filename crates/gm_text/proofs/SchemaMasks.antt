-- The labels of a mask, one after another, are the mask.
use Rattle.std.proofs.Common.{◌≡◌, ◌≢◌, ℕ, zero, suc, ◌^◌, ◌<◌, ◌≤◌, max, Bool, true, false, cond, List, [], ◌∷◌, ◌++◌, map, refl, sym, ap, subst, ◌∙◌, arith}
use Rattle.std.specs.Prelude.{◌==◌}
use Rattle.std.specs.Int.{bit_at}
use Rattle.std.proofs.lemmas.Bool.Decides.{nat_tests}
use Rattle.std.proofs.lemmas.List.{append-nil}
use Rattle.std.proofs.lemmas.Nat.{or_lt}
use Rattle.std.proofs.Math.Pow.{pow-lt}
use Rattle.std.proofs.lemmas.Nat.Bits.{bit_at-zero, bit_at-lt, bit_at_or, bit_at-pow_same, bit_at-pow_other, same_from_bits_below}
use Rattle.gm_model.specs.declared.word.Mask.{Mask}
use Rattle.gm_model.specs.Labels.{has}
use Rattle.gm_text.specs.SchemaText.{LabelForm, no_labels, with_label, with_labels, labels_below}

abbrev pub label_form : ℕ → LabelForm
label_form label = record { label = label; place = 0 }

abbrev pub label_forms : List ℕ → List LabelForm
label_forms labels = map label_form labels

pub with_last : (mask : Mask) (labels : List ℕ) (label : ℕ) → with_labels mask (label_forms (labels ++ label ∷ [])) ≡ with_label (with_labels mask (label_forms labels)) label
with_last mask [] label = refl
with_last mask (first ∷ labels) label = with_last (with_label mask first) labels label

-- the mask of the labels below the number
abbrev pub built : Mask → ℕ → Mask
built mask k = with_labels no_labels (label_forms (labels_below mask k))

next_below : (mask : Mask) (k : ℕ) (b : Bool) → has mask k ≡ b → labels_below mask (suc k) ≡ labels_below mask k ++ cond b (k ∷ []) []
next_below mask k b e = ap (λ (c : Bool). labels_below mask k ++ cond c (k ∷ []) []) e

built_has : (mask : Mask) (k : ℕ) → has mask k ≡ true → built mask (suc k) ≡ with_label (built mask k) k
built_has mask k e = ap (λ (labels : List ℕ). with_labels no_labels (label_forms labels)) (next_below mask k true e) ∙ with_last no_labels (labels_below mask k) k

built_lacks : (mask : Mask) (k : ℕ) → has mask k ≡ false → built mask (suc k) ≡ built mask k
built_lacks mask k e = ap (λ (labels : List ℕ). with_labels no_labels (label_forms labels)) (next_below mask k false e ∙ append-nil (labels_below mask k))

more_bit : (mask : Mask) (k i : ℕ) → bit_at (with_label mask k).bits i ≡ max (bit_at mask.bits i) (bit_at (2 ^ k) i)
more_bit mask k i = bit_at_or mask.bits (2 ^ k) i

pub none_above : (mask : Mask) (k i : ℕ) → k ≤ i → bit_at (built mask k).bits i ≡ 0
none_above mask zero i h = bit_at-zero i
none_above mask (suc k) i h = go (none_above mask k i (omega (arith, h))) (has mask k) refl
  where
    go : bit_at (built mask k).bits i ≡ 0 → (b : Bool) → has mask k ≡ b → bit_at (built mask (suc k)).bits i ≡ 0
    go before true e =
        let other : i ≢ k = omega (arith, h) in
        let none = bit_at-pow_other k i other in
        ap (λ (m : Mask). bit_at m.bits i) (built_has mask k e) ∙ more_bit (built mask k) k i ∙ omega (arith, before, none)
    go before false e = ap (λ (m : Mask). bit_at m.bits i) (built_lacks mask k e) ∙ before

same_below : (mask : Mask) (k i : ℕ) → i < k → bit_at (built mask k).bits i ≡ bit_at mask.bits i
same_below mask zero i h = absurd (omega (arith, h))
same_below mask (suc k) i h = go (same_below mask k i) (none_above mask k k) (has mask k) refl (i == k) refl
  where
    go : (i < k → bit_at (built mask k).bits i ≡ bit_at mask.bits i) → (k ≤ k → bit_at (built mask k).bits k ≡ 0) → (b : Bool) → has mask k ≡ b → (c : Bool) → (i == k) ≡ c → bit_at (built mask (suc k)).bits i ≡ bit_at mask.bits i
    go before none true e true f =
        let same : i ≡ k = grind (arith, nat_tests, f) in
        let bit : bit_at mask.bits k ≡ 1 = grind (arith, nat_tests, e) in
        let at = none (omega arith) in
        let one = bit_at-pow_same k in
        subst (λ (j : ℕ). bit_at (built mask (suc k)).bits j ≡ bit_at mask.bits j) (sym same) (ap (λ (m : Mask). bit_at m.bits k) (built_has mask k e) ∙ more_bit (built mask k) k k ∙ omega (arith, at, one, bit))
    go before none true e false f =
        let other : i ≢ k = grind (arith, nat_tests, f) in
        let low : i < k = omega (arith, h, other) in
        let at = before low in
        let zero_there = bit_at-pow_other k i other in
        ap (λ (m : Mask). bit_at m.bits i) (built_has mask k e) ∙ more_bit (built mask k) k i ∙ omega (arith, at, zero_there)
    go before none false e true f =
        let same : i ≡ k = grind (arith, nat_tests, f) in
        let small = bit_at-lt mask.bits k in
        let bit : bit_at mask.bits k ≢ 1 = grind (arith, nat_tests, e) in
        let at = none (omega arith) in
        subst (λ (j : ℕ). bit_at (built mask (suc k)).bits j ≡ bit_at mask.bits j) (sym same) (ap (λ (m : Mask). bit_at m.bits k) (built_lacks mask k e) ∙ omega (arith, at, small, bit))
    go before none false e false f =
        let other : i ≢ k = grind (arith, nat_tests, f) in
        let low : i < k = omega (arith, h, other) in
        ap (λ (m : Mask). bit_at m.bits i) (built_lacks mask k e) ∙ before low

power_small : (k : ℕ) → suc k ≤ 8 → 2 ^ k < 2 ^ 8
power_small k h = pow-lt {i = k} {j = 8} (omega (arith, h))

built_small : (mask : Mask) (k : ℕ) → k ≤ 8 → (built mask k).bits < 2 ^ 8
built_small mask zero h = omega arith
built_small mask (suc k) h = go (built_small mask k (omega (arith, h))) (has mask k) refl
  where
    go : (built mask k).bits < 2 ^ 8 → (b : Bool) → has mask k ≡ b → (built mask (suc k)).bits < 2 ^ 8
    go before true e = subst (λ (m : Mask). m.bits < 2 ^ 8) (sym (built_has mask k e)) (or_lt 8 (built mask k).bits (2 ^ k) before (power_small k h))
    go before false e = subst (λ (m : Mask). m.bits < 2 ^ 8) (sym (built_lacks mask k e)) before

pub built_whole : (mask : Mask) → mask.bits < 2 ^ 8 → built mask 8 ≡ mask
built_whole mask small =
    let bits : (built mask 8).bits ≡ mask.bits = same_from_bits_below 8 (built mask 8).bits mask.bits (built_small mask 8 (omega arith)) small (λ i low. same_below mask 8 i low) in
    ap (λ (b : ℕ). let m : Mask = record { bits = b } in m) bits
