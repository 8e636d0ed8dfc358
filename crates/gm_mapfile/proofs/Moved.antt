-- Distinct darts in another order answer each look-up alike, so what holds of the one list as a map holds of the other.
use Rattle.std.proofs.Common.{◌≡◌, ℕ, eqb, List, [], ◌∷◌, Option, Some, None, is_some, inl, inr, refl, sym, ap, subst, ◌∙◌, arith, pos}
use Rattle.std.specs.Prelude.{IsPermutation, IsSome, slice_index_or}
use Rattle.std.specs.Option.{option_map, option_map_or}
use Rattle.std.proofs.lemmas.Bool.{cases_Bool, eqb-true, eq-eqb}
use Rattle.std.proofs.lemmas.List.Sorted.{sum_by-IsPermutation, IsPermutation-sym, IsPermutation-map}
use Rattle.gm_model.specs.declared.value.Value.{Value}
use Rattle.gm_model.specs.declared.value.Value.TheVariants.{Int}
use Rattle.gm_model.specs.GMap.{Row, row_of, IsLive, alpha}
use Rattle.gm_mapfile.specs.MapText.{DartRow, bare, rows_of, dart_of, value_in}
use Rattle.gm_mapfile.specs.MapFaults.{rows_named, AreNamedOnce}
use Rattle.gm_mapfile.proofs.Ascending.{Has, moves_into}
use Rattle.gm_mapfile.proofs.Darts.{row_of_dart}
use Rattle.gm_mapfile.proofs.Named.{one_if, named_cons, named_some}

pub distinct_moved : (darts others : List DartRow) → IsPermutation darts others → AreNamedOnce (rows_of others) → AreNamedOnce (rows_of darts)
distinct_moved darts others moved distinct d =
    let same : rows_named (rows_of others) d ≡ rows_named (rows_of darts) d = sum_by-IsPermutation (one_if d) (rows_of darts) (rows_of others) (IsPermutation-map bare darts others moved) in
    omega (arith, same, distinct d)

-- what is found is there
had : (darts : List DartRow) (d : ℕ) (r : DartRow) → dart_of darts d ≡ Some r → Has darts r × (r.name ≡ d)
had [] d r is = absurd cc
had (dart ∷ darts) d r is =
    elim (cases_Bool (eqb dart.name d)) [
      | inl here ↦
          let found : Some dart ≡ Some r = rw here at is in
          let same : dart ≡ r = cc found in
          (inl same, sym (ap (λ (x : DartRow). x.name) same) ∙ eqb-true dart.name d here)
      | inr other ↦
          let rest : dart_of darts d ≡ Some r = rw other at is in
          let found = had darts d r rest in
          (inr found.0, found.1)
    ]

-- and what is there is found, where no other has its name
found : (darts : List DartRow) (r : DartRow) → AreNamedOnce (rows_of darts) → Has darts r → dart_of darts r.name ≡ Some r
found [] r distinct has = absurd has
found (dart ∷ darts) r distinct (inl same) = rw (eq-eqb dart.name r.name (ap (λ (x : DartRow). x.name) same)) (ap Some same)
found (dart ∷ darts) r distinct (inr has) =
    let rest : dart_of darts r.name ≡ Some r = found darts r (λ d. omega (arith, distinct d, named_cons (bare dart) (rows_of darts) d)) has in
    elim (cases_Bool (eqb dart.name r.name)) [
      | inl here ↦
          let one : one_if r.name (bare dart) ≡ 1 = rw here refl in
          let live : IsLive (rows_of darts) r.name = ap is_some (row_of_dart darts r.name ∙ ap (option_map bare) rest) in
          absurd (omega (arith, distinct r.name, named_cons (bare dart) (rows_of darts) r.name, one, named_some (rows_of darts) r.name live))
      | inr other ↦ rw other rest
    ]

found_moved : (darts others : List DartRow) → IsPermutation darts others → AreNamedOnce (rows_of others) → (d : ℕ) (r : DartRow) → dart_of darts d ≡ Some r → dart_of others d ≡ Some r
found_moved darts others moved distinct d r is =
    let there = had darts d r is in
    subst (λ (x : ℕ). dart_of others x ≡ Some r) there.1 (found others r distinct (moves_into darts others moved r there.0))

pub same_moved : (darts others : List DartRow) → IsPermutation darts others → AreNamedOnce (rows_of others) → (d : ℕ) → dart_of darts d ≡ dart_of others d
same_moved darts others moved distinct d = go (dart_of darts d) (dart_of others d) refl refl
  where
    go : (o p : Option DartRow) → dart_of darts d ≡ o → dart_of others d ≡ p → dart_of darts d ≡ dart_of others d
    go (Some r) p is there = is ∙ sym (found_moved darts others moved distinct d r is)
    go None None is there = is ∙ sym there
    go None (Some r) is there =
        let back : dart_of darts d ≡ Some r = found_moved others darts (IsPermutation-sym darts others moved) (distinct_moved darts others moved distinct) d r there in
        let none : None ≡ Some r = sym is ∙ back in
        absurd cc

-- what holds of the live darts, neighbours and values of some darts holds of those of darts with the same look-ups
pub of_look_ups : (darts others : List DartRow) → ((d : ℕ) → dart_of darts d ≡ dart_of others d) → (P : (ℕ → Type 0) → (ℕ → ℕ → ℕ) → (ℕ → ℕ → Value) → Type 0)
    → P (IsLive (rows_of others)) (alpha (rows_of others)) (value_in others) → P (IsLive (rows_of darts)) (alpha (rows_of darts)) (value_in darts)
of_look_ups darts others same P h =
    let rows : row_of (rows_of others) ≡ row_of (rows_of darts) = λ k d. (row_of_dart others d ∙ (ap (option_map bare) (sym (same d)) ∙ sym (row_of_dart darts d))) k in
    let values : value_in others ≡ value_in darts = λ k e d. option_map_or (λ (dart : DartRow). slice_index_or dart.values e (Int (pos 0))) (sym (same d) k) (Int (pos 0)) in
    subst (λ (f : ℕ → ℕ → Value). P (IsLive (rows_of darts)) (alpha (rows_of darts)) f) values
    (subst (λ (f : ℕ → Option Row). P (λ d. IsSome (f d)) (λ i d. option_map_or (λ (row : Row). slice_index_or row.alphas i d) (f d) d) (value_in others)) rows h)
