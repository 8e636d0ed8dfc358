-- Darts with different names, in ascending order of these.
use Rattle.std.proofs.Common.{◌≡◌, ◌≢◌, ℕ, zero, suc, ◌+◌, ◌<◌, ◌≤◌, Bool, true, false, cond, List, [], ◌∷◌, refl, sym, arith}
use Rattle.std.specs.Prelude.{IsPermutation, nat_lt}
use Rattle.std.specs.List.{AllByRecursion}
use Rattle.std.specs.List.Sorted.{IsStrictlyIncreasing}
use Rattle.std.proofs.lemmas.Bool.{eq-eqb}
use Rattle.std.proofs.lemmas.Bool.Decides.{nat_tests}
use Rattle.std.proofs.lemmas.List.Sorted.{IsPermutation-refl, IsPermutation-sym, IsPermutation-trans, IsPermutation-cons, IsPermutation-middle}
use Rattle.gm_mapfile.specs.MapText.{DartRow, names, bare, rows_of}
use Rattle.gm_mapfile.specs.MapFaults.{rows_named, AreNamedOnce}
use Rattle.gm_mapfile.proofs.Again.{moved}
use Rattle.gm_mapfile.proofs.Ascending.{AreAbove, Rises}
use Rattle.gm_mapfile.proofs.Named.{one_if, named_cons}

abbrev insert : DartRow → List DartRow → List DartRow
insert dart [] = dart ∷ []
insert dart (first ∷ darts) = cond (nat_lt dart.name first.name) (dart ∷ first ∷ darts) (first ∷ insert dart darts)

abbrev pub sort : List DartRow → List DartRow
sort [] = []
sort (dart ∷ darts) = insert dart (sort darts)

-- ---- the same darts

inserted : (dart : DartRow) (darts : List DartRow) → IsPermutation (dart ∷ darts) (insert dart darts)
inserted dart [] = IsPermutation-refl (dart ∷ [])
inserted dart (first ∷ darts) = go (nat_lt dart.name first.name) (inserted dart darts)
  where
    go : (b : Bool) → IsPermutation (dart ∷ darts) (insert dart darts) → IsPermutation (dart ∷ first ∷ darts) (cond b (dart ∷ first ∷ darts) (first ∷ insert dart darts))
    go true behind = IsPermutation-refl (dart ∷ first ∷ darts)
    go false behind =
        IsPermutation-trans (dart ∷ first ∷ darts) (first ∷ dart ∷ darts) (first ∷ insert dart darts)
        (IsPermutation-sym (first ∷ dart ∷ darts) (dart ∷ first ∷ darts) (IsPermutation-middle (first ∷ []) dart darts))
        (IsPermutation-cons first (dart ∷ darts) (insert dart darts) behind)

pub sorted_same : (darts : List DartRow) → IsPermutation darts (sort darts)
sorted_same [] = IsPermutation-refl []
sorted_same (dart ∷ darts) =
    IsPermutation-trans (dart ∷ darts) (dart ∷ sort darts) (insert dart (sort darts)) (IsPermutation-cons dart darts (sort darts) (sorted_same darts)) (inserted dart (sort darts))

-- ---- in order

abbrev AreOthers : ℕ → List DartRow → Type 0
AreOthers n darts = AllByRecursion (λ (dart : DartRow). n ≢ dart.name) darts

above_lower : (m n : ℕ) (darts : List DartRow) → m < n → AreAbove n darts → AreAbove m darts
above_lower m n [] less above = tt
above_lower m n (dart ∷ darts) less above = (omega (arith, less, above.0), above_lower m n darts less above.1)

inserted_above : (n : ℕ) (dart : DartRow) (darts : List DartRow) → n < dart.name → AreAbove n darts → AreAbove n (insert dart darts)
inserted_above n dart [] less above = (less, tt)
inserted_above n dart (first ∷ darts) less above = go (nat_lt dart.name first.name) (inserted_above n dart darts less above.1)
  where
    go : (b : Bool) → AreAbove n (insert dart darts) → AreAbove n (cond b (dart ∷ first ∷ darts) (first ∷ insert dart darts))
    go true behind = (less, above)
    go false behind = (above.0, behind)

between : (m n : ℕ) → m ≤ n → n ≢ m → m < n
between m n more other = omega (arith, more, other)

inserted_rises : (dart : DartRow) (darts : List DartRow) → AreOthers dart.name darts → Rises darts → Rises (insert dart darts)
inserted_rises dart [] others up = (tt, tt)
inserted_rises dart (first ∷ darts) others up = go (nat_lt dart.name first.name) refl (inserted_rises dart darts others.1 up.1)
  where
    go : (b : Bool) → nat_lt dart.name first.name ≡ b → Rises (insert dart darts) → Rises (cond b (dart ∷ first ∷ darts) (first ∷ insert dart darts))
    go true e behind =
        let less : dart.name < first.name = grind (arith, nat_tests, e) in
        ((less, above_lower dart.name first.name darts less up.0), up)
    go false e behind =
        let more : first.name ≤ dart.name = grind (arith, nat_tests, e) in
        let less : first.name < dart.name = between first.name dart.name more others.0 in
        (inserted_above first.name dart darts less up.0, behind)

-- a name that is had once is no other dart's
others_of : (n : ℕ) (darts : List DartRow) → rows_named (rows_of darts) n ≡ 0 → AreOthers n darts
others_of n [] none = tt
others_of n (dart ∷ darts) none = (apart, others_of n darts (omega (arith, none, named_cons (bare dart) (rows_of darts) n)))
  where
    apart : n ≢ dart.name
    apart same = let one : one_if n (bare dart) ≡ 1 = rw (eq-eqb dart.name n (sym same)) refl in omega (arith, none, one, named_cons (bare dart) (rows_of darts) n)

sorted_rises : (darts : List DartRow) → AreNamedOnce (rows_of darts) → Rises (sort darts)
sorted_rises [] distinct = tt
sorted_rises (dart ∷ darts) distinct =
    let one : one_if dart.name (bare dart) ≡ 1 = rw (eq-eqb dart.name dart.name refl) refl in
    let none : rows_named (rows_of darts) dart.name ≡ 0 = omega (arith, distinct dart.name, one, named_cons (bare dart) (rows_of darts) dart.name) in
    inserted_rises dart (sort darts) (moved (λ (other : DartRow). dart.name ≢ other.name) darts (sort darts) (sorted_same darts) (others_of dart.name darts none))
    (sorted_rises darts (λ d. omega (arith, distinct d, named_cons (bare dart) (rows_of darts) d)))

-- ---- by their places

increasing : (darts : List DartRow) → Rises darts → IsStrictlyIncreasing (names darts)
increasing [] up k less = absurd (omega (arith, less))
increasing (dart ∷ []) up k less = absurd (omega (arith, less))
increasing (dart ∷ next ∷ darts) up zero less = up.0.0
increasing (dart ∷ next ∷ darts) up (suc k) less =
    let step : suc k + 1 ≡ suc (k + 1) = omega arith in
    rw step (increasing (next ∷ darts) up.1 k (omega (arith, less)))

pub sorted_ascends : (darts : List DartRow) → AreNamedOnce (rows_of darts) → IsStrictlyIncreasing (names (sort darts))
sorted_ascends darts distinct = increasing (sort darts) (sorted_rises darts distinct)
