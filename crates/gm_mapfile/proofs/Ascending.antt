-- Darts in ascending order of their names are told apart by what they have.
use Rattle.std.proofs.Common.{◌≡◌, ℕ, zero, suc, ◌<◌, List, [], ◌∷◌, length, get_or, ◌⊎◌, inl, inr, refl, sym, ap, subst, ◌∙◌, arith}
use Rattle.std.specs.Prelude.{IsPermutation, Contains}
use Rattle.std.specs.List.{AllByRecursion}
use Rattle.std.specs.List.Sorted.{IsStrictlyIncreasing}
use Rattle.std.proofs.lemmas.List.{length-map}
use Rattle.std.proofs.lemmas.List.Kept.{AllPairs-from_increasing}
use Rattle.std.proofs.lemmas.List.Sorted.{Contains-permutation, IsPermutation-sym}
use Rattle.gm_mapfile.specs.MapText.{DartRow, names}

abbrev pub Has : List DartRow → DartRow → Type 0
Has [] dart = ⊥
Has (first ∷ darts) dart = (first ≡ dart) ⊎ Has darts dart

abbrev pub AreAbove : ℕ → List DartRow → Type 0
AreAbove n darts = AllByRecursion (λ (dart : DartRow). n < dart.name) darts

abbrev pub Rises : List DartRow → Type 0
Rises [] = Unit {0}
Rises (dart ∷ darts) = AreAbove dart.name darts × Rises darts

is_above : (n : ℕ) (darts : List DartRow) (dart : DartRow) → AreAbove n darts → Has darts dart → n < dart.name
is_above n [] dart above has = absurd has
is_above n (first ∷ darts) dart above (inl same) = subst (λ (r : DartRow). n < r.name) same above.0
is_above n (first ∷ darts) dart above (inr has) = is_above n darts dart above.1 has

-- what the tails have, where the heads are one
later : (dart other : DartRow) (darts others : List DartRow) → dart ≡ other → AreAbove dart.name darts → ((r : DartRow) → Has (dart ∷ darts) r → Has (other ∷ others) r) → (r : DartRow) → Has darts r → Has others r
later dart other darts others same above into r has =
    elim (into r (inr has)) [
      | inl here ↦ let up : dart.name < r.name = is_above dart.name darts r above has in let name : dart.name ≡ r.name = ap (λ (x : DartRow). x.name) (same ∙ here) in absurd (omega arith)
      | inr there ↦ there
    ]

same_rising : (darts others : List DartRow) → Rises darts → Rises others → ((r : DartRow) → Has darts r → Has others r) → ((r : DartRow) → Has others r → Has darts r) → darts ≡ others
same_rising [] [] up up' into back = refl
same_rising [] (other ∷ others) up up' into back = absurd (back other (inl refl))
same_rising (dart ∷ darts) [] up up' into back = absurd (into dart (inl refl))
same_rising (dart ∷ darts) (other ∷ others) up up' into back =
    let heads : dart ≡ other = first (into dart (inl refl)) (back other (inl refl)) in
    let tails : darts ≡ others = same_rising darts others up.1 up'.1 (later dart other darts others heads up.0 into) (later other dart others darts (sym heads) up'.0 back) in
    rw (heads, tails) refl
  where
    first : Has (other ∷ others) dart → Has (dart ∷ darts) other → dart ≡ other
    first (inl same) has = sym same
    first (inr there) (inl same) = same
    first (inr there) (inr here) =
        let low : other.name < dart.name = is_above other.name others dart up'.0 there in
        let high : dart.name < other.name = is_above dart.name darts other up.0 here in
        absurd (omega arith)

-- ---- from the words of std

has_contained : (darts : List DartRow) (dart : DartRow) (k : ℕ) → k < length darts → get_or darts k dart ≡ dart → Has darts dart
has_contained [] dart k lt is = absurd (omega arith)
has_contained (first ∷ darts) dart zero lt is = inl is
has_contained (first ∷ darts) dart (suc k) lt is = inr (has_contained darts dart k (omega arith) is)

contains_had : (darts : List DartRow) (dart : DartRow) → Has darts dart → Contains darts dart
contains_had [] dart has = absurd has
contains_had (first ∷ darts) dart (inl same) = (0, omega arith, same)
contains_had (first ∷ darts) dart (inr has) = let k = contains_had darts dart has in let lt : suc k.0 < suc (length darts) = omega (arith, k.1) in (suc k.0, lt, k.2)

pub moves_into : (darts others : List DartRow) → IsPermutation darts others → (r : DartRow) → Has darts r → Has others r
moves_into darts others moved r has =
    let there = Contains-permutation darts others r moved (contains_had darts r has) in
    has_contained others r there.0 there.1 there.2

above_from : (n : ℕ) (darts : List DartRow) → ((j d : ℕ) → j < length darts → n < get_or (names darts) j d) → AreAbove n darts
above_from n [] h = tt
above_from n (dart ∷ darts) h = (h 0 0 (omega arith), above_from n darts (λ j d lt. h (suc j) d (omega arith)))

rises_from : (darts : List DartRow) → ((i j d : ℕ) → i < j → j < length darts → get_or (names darts) i d < get_or (names darts) j d) → Rises darts
rises_from [] h = tt
rises_from (dart ∷ darts) h = (above_from dart.name darts (λ j d lt. h 0 (suc j) d (omega arith) (omega arith)), rises_from darts (λ i j d lt last. h (suc i) (suc j) d (omega arith) (omega arith)))

pub rises : (darts : List DartRow) → IsStrictlyIncreasing (names darts) → Rises darts
rises darts up =
    let pairs = AllPairs-from_increasing (names darts) up in
    rises_from darts (λ i j d before last. pairs i j d before (omega (arith, length-map darts (λ (dart : DartRow). dart.name), last)))

pub same_ascending : (darts others : List DartRow) → IsStrictlyIncreasing (names darts) → IsStrictlyIncreasing (names others) → IsPermutation darts others → darts ≡ others
same_ascending darts others up up' moved = same_rising darts others (rises darts up) (rises others up') (moves_into darts others moved) (moves_into others darts (IsPermutation-sym darts others moved))
