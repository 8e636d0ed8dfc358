-- The labels of a mask in ascending order: they are the mask again, each is mentioned once, and no orbit that means the mask has fewer.
use Rattle.std.proofs.Common.{◌≡◌, ◌≢◌, ℕ, zero, suc, ◌+◌, ◌^◌, ◌<◌, ◌≤◌, max, Bool, true, false, cond, List, [], ◌∷◌, ◌++◌, length, inl, inr, ◌⊎◌, refl, sym, ap, subst, ◌∙◌, arith}
use Rattle.std.specs.Prelude.{◌==◌, ◌*◌, ◌%◌, ◌/◌, IsTrue}
use Rattle.std.specs.Int.{bit_at}
use Rattle.std.specs.List.{AllByRecursion}
use Rattle.std.proofs.lemmas.Bool.{cases_lt}
use Rattle.std.proofs.lemmas.Bool.Decides.{nat_tests}
use Rattle.std.proofs.lemmas.List.{append-nil, length-append}
use Rattle.std.proofs.lemmas.Nat.Bits.{bit_at-zero, bit_at-lt, bit_at_or, bit_at-pow_other, bit_at_above, bit_at_cat_low, same_from_bits}
use Rattle.gm_model.specs.declared.word.Mask.{Mask}
use Rattle.gm_model.specs.Labels.{has}
use Rattle.gm_model.specs.Symbols.{Mark}
use Rattle.gm_text.specs.SchemaText.{LabelForm, no_labels, with_label, with_labels, labels_below, labels_in}
use Rattle.gm_text.proofs.SchemaMasks.{label_forms, built, none_above, built_whole}
use Rattle.gm_text.proofs.SchemaPrinted.{labels_all}
use Rattle.gm_parse.specs.Meaning.{again_in, orbit_faults, mask_of}
use Rattle.gm_expr.proofs.Canonical.{behind, labels_at}

-- ---- the mask again

labels_as : (mask : Mask) (marks : List Mark) (labels : List ℕ) → with_labels mask (labels_at marks labels) ≡ with_labels mask (label_forms labels)
labels_as mask marks [] = refl
labels_as mask marks (label ∷ labels) = labels_as (with_label mask label) (behind marks) labels

-- no label is above 7
abbrev pub IsNarrow : Mask → Type 0
IsNarrow mask = (i : ℕ) → IsTrue (has mask i) → i ≤ 7

bit_above : (mask : Mask) → IsNarrow mask → (i : ℕ) → 8 ≤ i → bit_at mask.bits i ≡ 0
bit_above mask narrow i high = go (bit_at mask.bits i == 1) refl
  where
    go : (b : Bool) → (bit_at mask.bits i == 1) ≡ b → bit_at mask.bits i ≡ 0
    go true e = let low : i ≤ 7 = narrow i e in absurd (omega (arith, low, high))
    go false e = let small = bit_at-lt mask.bits i in let other : bit_at mask.bits i ≢ 1 = grind (arith, nat_tests, e) in omega (arith, small, other)

bits_small : (mask : Mask) → IsNarrow mask → mask.bits < 2 ^ 8
bits_small mask narrow =
    let rest : mask.bits % 2 ^ 8 < 2 ^ 8 = omega arith in
    let same : mask.bits ≡ mask.bits % 2 ^ 8 = same_from_bits mask.bits (mask.bits % 2 ^ 8) (λ i. bit_same i (cases_lt i 8)) in
    omega (arith, same, rest)
  where
    bit_same : (i : ℕ) → ((i < 8) ⊎ (8 ≤ i)) → bit_at mask.bits i ≡ bit_at (mask.bits % 2 ^ 8) i
    bit_same i (inl low) =
        let split : mask.bits ≡ mask.bits / 2 ^ 8 * 2 ^ 8 + mask.bits % 2 ^ 8 = omega arith in
        ap (λ (b : ℕ). bit_at b i) split ∙ bit_at_cat_low (mask.bits / 2 ^ 8) 8 (mask.bits % 2 ^ 8) i low
    bit_same i (inr high) = bit_above mask narrow i high ∙ sym (bit_at_above (mask.bits % 2 ^ 8) 8 i (omega arith) high)

-- with its labels, at any places, comes the mask
pub mask_again : (mask : Mask) (marks : List Mark) → IsNarrow mask → mask_of (labels_at marks (labels_in mask)) ≡ mask
mask_again mask marks narrow =
    labels_as no_labels marks (labels_in mask) ∙ ap (λ (labels : List ℕ). with_labels no_labels (label_forms labels)) (sym (labels_all mask)) ∙ built_whole mask (bits_small mask narrow)

-- ---- each once

-- none is in the mask, nor mentioned before
abbrev AreNewLabels : Mask → List ℕ → Type 0
AreNewLabels mask [] = Unit {0}
AreNewLabels mask (label ∷ labels) = (has mask label ≡ false) × AreNewLabels (with_label mask label) labels

one_more : (mask : Mask) (labels : List ℕ) (label : ℕ) → AreNewLabels mask labels → has (with_labels mask (label_forms labels)) label ≡ false → AreNewLabels mask (labels ++ label ∷ [])
one_more mask [] label all new = (new, tt)
one_more mask (first ∷ labels) label all new = (all.0, one_more (with_label mask first) labels label all.1 new)

all_new : (mask : Mask) (k : ℕ) → AreNewLabels no_labels (labels_below mask k)
all_new mask zero = tt
all_new mask (suc k) = go (all_new mask k) (has mask k) refl
  where
    new : has (built mask k) k ≡ false
    new = ap (λ (b : ℕ). b == 1) (none_above mask k k (omega arith))

    go : AreNewLabels no_labels (labels_below mask k) → (b : Bool) → has mask k ≡ b → AreNewLabels no_labels (labels_below mask (suc k))
    go all true e = rw e (one_more no_labels (labels_below mask k) k all new)
    go all false e = rw e (subst (AreNewLabels no_labels) (sym (append-nil (labels_below mask k))) all)

none_again : (mask : Mask) (marks : List Mark) (labels : List ℕ) → AreNewLabels mask labels → again_in mask (labels_at marks labels) ≡ []
none_again mask marks [] all = refl
none_again mask marks (label ∷ labels) all = rw all.0 (none_again (with_label mask label) (behind marks) labels all.1)

pub labels_faultless : (mask : Mask) (marks : List Mark) → orbit_faults (labels_at marks (labels_in mask)) ≡ []
labels_faultless mask marks = none_again no_labels marks (labels_in mask) (subst (AreNewLabels no_labels) (labels_all mask) (all_new mask 8))

-- ---- all are the mask's

module _ (P : ℕ → Type 0) where
  all_with : (labels : List ℕ) (label : ℕ) → AllByRecursion P labels → P label → AllByRecursion P (labels ++ label ∷ [])
  all_with [] label all last = (last, tt)
  all_with (first ∷ labels) label all last = (all.0, all_with labels label all.1 last)

  all_below : (mask : Mask) → ((i : ℕ) → IsTrue (has mask i) → P i) → (k : ℕ) → AllByRecursion P (labels_below mask k)
  all_below mask each zero = tt
  all_below mask each (suc k) = go (all_below mask each k) (has mask k) refl
    where
      go : AllByRecursion P (labels_below mask k) → (b : Bool) → has mask k ≡ b → AllByRecursion P (labels_below mask (suc k))
      go all true e = rw e (all_with (labels_below mask k) k all (each k e))
      go all false e = rw e (subst (AllByRecursion P) (sym (append-nil (labels_below mask k))) all)

  -- what holds of each label of the mask holds of all that are written
  pub all_labels : (mask : Mask) → ((i : ℕ) → IsTrue (has mask i) → P i) → AllByRecursion P (labels_in mask)
  all_labels mask each = subst (AllByRecursion P) (labels_all mask) (all_below mask each 8)

-- ---- how many they are

other_label : (mask : Mask) (label k : ℕ) → k ≢ label → has (with_label mask label) k ≡ has mask k
other_label mask label k other =
    ap (λ (b : ℕ). b == 1) (bit_at_or mask.bits (2 ^ label) k ∙ ap (max (bit_at mask.bits k)) (bit_at-pow_other label k other) ∙ omega arith)

same_below : (mask : Mask) (label k : ℕ) → k ≤ label → labels_below (with_label mask label) k ≡ labels_below mask k
same_below mask label zero low = refl
same_below mask label (suc k) low =
    let here = other_label mask label k (omega (arith, low)) in
    ap (λ (b : Bool). labels_below (with_label mask label) k ++ cond b (k ∷ []) []) here ∙ ap (λ (front : List ℕ). front ++ cond (has mask k) (k ∷ []) []) (same_below mask label k (omega (arith, low)))

-- the next one where it is in the mask
abbrev one_if : Bool → ℕ
one_if true = 1
one_if false = 0

count_next : (mask : Mask) (k : ℕ) → length (labels_below mask (suc k)) ≡ length (labels_below mask k) + one_if (has mask k)
count_next mask k = length-append (labels_below mask k) (cond (has mask k) (k ∷ []) []) ∙ ap (λ (m : ℕ). length (labels_below mask k) + m) (go (has mask k))
  where
    go : (b : Bool) → length (cond b (k ∷ []) []) ≡ one_if b
    go true = refl
    go false = refl

one_most : (b : Bool) → one_if b ≤ 1
one_most true = omega arith
one_most false = omega arith

-- a label more is one more at most
count_with : (mask : Mask) (label k : ℕ) → length (labels_below (with_label mask label) k) ≤ length (labels_below mask k) + 1
count_with mask label zero = omega arith
count_with mask label (suc k) = go (count_with mask label k) (k == label) refl
  where
    with_next : length (labels_below (with_label mask label) (suc k)) ≡ length (labels_below (with_label mask label) k) + one_if (has (with_label mask label) k)
    with_next = count_next (with_label mask label) k

    next : length (labels_below mask (suc k)) ≡ length (labels_below mask k) + one_if (has mask k)
    next = count_next mask k

    go : length (labels_below (with_label mask label) k) ≤ length (labels_below mask k) + 1 → (b : Bool) → (k == label) ≡ b → length (labels_below (with_label mask label) (suc k)) ≤ length (labels_below mask (suc k)) + 1
    go before true e =
        let same : k ≡ label = grind (arith, nat_tests, e) in
        let front = ap (λ (labels : List ℕ). length labels) (same_below mask label k (omega (arith, same))) in
        let one = one_most (has (with_label mask label) k) in
        omega (arith, with_next, next, front, one)
    go before false e =
        let other : k ≢ label = grind (arith, nat_tests, e) in
        let here = ap one_if (other_label mask label k other) in
        omega (arith, with_next, next, before, here)

count_labels : (mask : Mask) (orbit : List LabelForm) (k : ℕ) → length (labels_below (with_labels mask orbit) k) ≤ length (labels_below mask k) + length orbit
count_labels mask [] k = omega arith
count_labels mask (form ∷ orbit) k =
    let one = count_with mask form.label k in
    let rest = count_labels (with_label mask form.label) orbit k in
    omega (arith, one, rest)

-- an orbit has no fewer labels than its mask
pub labels_fewest : (orbit : List LabelForm) → length (labels_in (mask_of orbit)) ≤ length orbit
labels_fewest orbit =
    let count = count_labels no_labels orbit 8 in
    let none : length (labels_below no_labels 8) ≡ 0 = refl in
    rw (← labels_all) (omega (arith, count, none))

-- ---- from labels up to n comes a mask up to n

low_with : (n label : ℕ) (mask : Mask) → ((i : ℕ) → IsTrue (has mask i) → i ≤ n) → label ≤ n → (i : ℕ) → IsTrue (has (with_label mask label) i) → i ≤ n
low_with n label mask each low i there = go (i == label) refl
  where
    go : (b : Bool) → (i == label) ≡ b → i ≤ n
    go true e = let same : i ≡ label = grind (arith, nat_tests, e) in omega (arith, same, low)
    go false e = let other : i ≢ label = grind (arith, nat_tests, e) in each i (sym (other_label mask label i other) ∙ there)

low_behind : (n : ℕ) (mask : Mask) (orbit : List LabelForm) → ((i : ℕ) → IsTrue (has mask i) → i ≤ n) → AllByRecursion (λ form. form.label ≤ n) orbit → (i : ℕ) → IsTrue (has (with_labels mask orbit) i) → i ≤ n
low_behind n mask [] each small = each
low_behind n mask (form ∷ orbit) each small = low_behind n (with_label mask form.label) orbit (low_with n form.label mask each small.0) small.1

pub low_labels : (n : ℕ) (orbit : List LabelForm) → AllByRecursion (λ form. form.label ≤ n) orbit → (i : ℕ) → IsTrue (has (mask_of orbit) i) → i ≤ n
low_labels n orbit small = low_behind n no_labels orbit (λ i there. let none : has no_labels i ≡ false = ap (λ (b : ℕ). b == 1) (bit_at-zero i) in let both : false ≡ true = sym none ∙ there in absurd cc) small
