-- Distinct darts that answer each look-up alike are the same darts in another order.
use Rattle.std.proofs.Common.{◌≡◌, ◌≢◌, ℕ, ◌+◌, ◌<◌, ◌≤◌, eqb, List, [], ◌∷◌, ◌++◌, Some, None, inl, inr, refl, sym, ap, subst, ◌∙◌, arith}
use Rattle.std.specs.Prelude.{IsPermutation}
use Rattle.std.specs.Option.{option_or}
use Rattle.std.specs.List.Sorted.{IsStrictlyIncreasing}
use Rattle.std.proofs.lemmas.Bool.{cases_Bool, cases_eq, eqb-true, ne_eqb, eq-eqb}
use Rattle.std.proofs.lemmas.List.Folds.{find-append}
use Rattle.std.proofs.lemmas.List.Sorted.{IsPermutation-refl, IsPermutation-sym, IsPermutation-trans, IsPermutation-cons, IsPermutation-middle}
use Rattle.gm_mapfile.specs.MapText.{DartRow, names, bare, rows_of, dart_of}
use Rattle.gm_mapfile.specs.MapFaults.{rows_named, AreNamedOnce}
use Rattle.gm_mapfile.proofs.Ascending.{Rises, AreAbove, rises}
use Rattle.gm_mapfile.proofs.Darts.{has_name, rows_append, none_of_named}
use Rattle.gm_mapfile.proofs.Named.{one_if, named_cons, named_append}

-- a dart that is found
pub split_found : (darts : List DartRow) (d : ℕ) (r : DartRow) → dart_of darts d ≡ Some r → (front : List DartRow) × (back : List DartRow) × (darts ≡ front ++ r ∷ back) × (r.name ≡ d)
split_found [] d r is = absurd cc
split_found (dart ∷ darts) d r is =
    elim (cases_Bool (eqb dart.name d)) [
      | inl here ↦
          let found : Some dart ≡ Some r = rw here at is in
          let same : dart ≡ r = cc found in
          ([], darts, ap (λ x. x ∷ darts) same, sym (ap (λ (x : DartRow). x.name) same) ∙ eqb-true dart.name d here)
      | inr other ↦
          let rest : dart_of darts d ≡ Some r = rw other at is in
          let found = split_found darts d r rest in
          (dart ∷ found.0, found.1, ap (λ xs. dart ∷ xs) found.2, found.3)
    ]

-- ---- how often a name is had

abbrev pub named : List DartRow → ℕ → ℕ
named darts d = rows_named (rows_of darts) d

own_count : (dart : DartRow) → one_if dart.name (bare dart) ≡ 1
own_count dart = rw (eq-eqb dart.name dart.name refl) refl

count_cons : (dart : DartRow) (darts : List DartRow) (d : ℕ) → named (dart ∷ darts) d ≡ one_if d (bare dart) + named darts d
count_cons dart darts d = named_cons (bare dart) (rows_of darts) d

count_append : (darts others : List DartRow) (d : ℕ) → named (darts ++ others) d ≡ named darts d + named others d
count_append darts others d = ap (λ rows. rows_named rows d) (rows_append darts others) ∙ named_append (rows_of darts) (rows_of others) d

-- ---- look-ups

skip : (dart : DartRow) (darts : List DartRow) (d : ℕ) → d ≢ dart.name → dart_of (dart ∷ darts) d ≡ dart_of darts d
skip dart darts d apart = rw (ne_eqb dart.name d (λ e. apart (sym e))) refl

skip_among : (front : List DartRow) (dart : DartRow) (back : List DartRow) (d : ℕ) → d ≢ dart.name → dart_of (front ++ dart ∷ back) d ≡ dart_of (front ++ back) d
skip_among front dart back d apart =
    find-append (has_name d) front (dart ∷ back) ∙ (ap (option_or (dart_of front d)) (skip dart back d apart) ∙ sym (find-append (has_name d) front back))

pub same_permuted : (xs ys : List DartRow) → AreNamedOnce (rows_of xs) → AreNamedOnce (rows_of ys) → ((d : ℕ) → dart_of xs d ≡ dart_of ys d) → IsPermutation xs ys
same_permuted [] [] one other same = IsPermutation-refl []
same_permuted [] (y ∷ ys) one other same =
    let here : dart_of (y ∷ ys) y.name ≡ Some y = rw (eq-eqb y.name y.name refl) refl in
    let none : None ≡ Some y = same y.name ∙ here in
    absurd cc
same_permuted (x ∷ xs) ys one other same =
    let here : dart_of (x ∷ xs) x.name ≡ Some x = rw (eq-eqb x.name x.name refl) refl in
    let found = split_found ys x.name x (sym (same x.name) ∙ here) in
    let front = found.0 in
    let back = found.1 in
    let there : AreNamedOnce (rows_of (front ++ x ∷ back)) = subst (λ darts. AreNamedOnce (rows_of darts)) found.2 other in
    let rest : IsPermutation xs (front ++ back) =
    same_permuted xs (front ++ back)
    (λ d. omega (arith, one d, count_cons x xs d))
    (λ d. omega (arith, there d, count_append front (x ∷ back) d, count_cons x back d, count_append front back d))
    (λ d. elim (cases_eq d x.name) [
      | inl e ↦ rw e (
          none_of_named xs x.name (omega (arith, one x.name, count_cons x xs x.name, own_count x))
          ∙ sym (none_of_named (front ++ back) x.name (omega (arith, there x.name, count_append front (x ∷ back) x.name, count_cons x back x.name, count_append front back x.name, own_count x))))
      | inr apart ↦ sym (skip x xs d apart) ∙ (same d ∙ (ap (λ darts. dart_of darts d) found.2 ∙ skip_among front x back d apart))
    ]) in
    subst (IsPermutation (x ∷ xs)) (sym found.2)
    (IsPermutation-trans (x ∷ xs) (x ∷ (front ++ back)) (front ++ x ∷ back) (IsPermutation-cons x xs (front ++ back) rest) (IsPermutation-sym (front ++ x ∷ back) (x ∷ (front ++ back)) (IsPermutation-middle front x back)))

-- ---- rising names are distinct

none_above : (n : ℕ) (darts : List DartRow) (d : ℕ) → AreAbove n darts → d ≤ n → named darts d ≡ 0
none_above n [] d above low = refl
none_above n (dart ∷ darts) d above low =
    let up : n < dart.name = above.0 in
    let zero : one_if d (bare dart) ≡ 0 = rw (ne_eqb dart.name d (λ e. omega (arith, e, up))) refl in
    omega (arith, count_cons dart darts d, zero, none_above n darts d above.1 low)

distinct_rising : (darts : List DartRow) → Rises darts → AreNamedOnce (rows_of darts)
distinct_rising [] up d = omega arith
distinct_rising (dart ∷ darts) up d =
    elim (cases_eq d dart.name) [
      | inl e ↦
          let low : d ≤ dart.name = omega (arith, e) in
          let one : one_if d (bare dart) ≡ 1 = rw e (own_count dart) in
          omega (arith, count_cons dart darts d, one, none_above dart.name darts d up.0 low)
      | inr apart ↦
          let zero : one_if d (bare dart) ≡ 0 = rw (ne_eqb dart.name d (λ e. apart (sym e))) refl in
          omega (arith, count_cons dart darts d, zero, distinct_rising darts up.1 d)
    ]

pub distinct_ascending : (darts : List DartRow) → IsStrictlyIncreasing (names darts) → AreNamedOnce (rows_of darts)
distinct_ascending darts up = distinct_rising darts (rises darts up)
