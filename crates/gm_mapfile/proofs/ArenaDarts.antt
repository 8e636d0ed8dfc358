-- The darts that an arena holds, as a list: what a look-up finds there, and that their names ascend.
use Rattle.std.proofs.Common.{◌≡◌, ℕ, zero, suc, ◌+◌, ◌<◌, eqb, Bool, true, false, ◌&&◌, T, List, [], ◌∷◌, get_or, map, Some, inl, inr, refl, sym, ap, subst, ◌∙◌, arith}
use Rattle.std.specs.Option.{option_map}
use Rattle.std.specs.Ordering.{nat_cmp, is_lt, eq_by_cmp}
use Rattle.std.specs.Cmp.{nat_cmp_is, unsigned_tied}
use Rattle.std.specs.FinMap.{get, keys, entries, find, is_sorted, get-entries, entries_sorted}
use Rattle.std.specs.FinMap.Entries.{below_all}
use Rattle.std.specs.List.Sorted.{IsStrictlyIncreasing}
use Rattle.std.specs.declared.cmp.Ordering.TheVariants.{Equal, Greater}
use Rattle.std.proofs.lemmas.Bool.{cases_Bool, cases_order, eqb-true, eq-eqb, ne_eqb, eqb-false}
use Rattle.gm_model.specs.GMap.{row_of}
use Rattle.gm_arena.specs.inner.ArenaMap.{ArenaMap, Dart}
use Rattle.gm_mapfile.specs.MapText.{DartRow, names, bare, rows_of, dart_of}
use Rattle.gm_mapfile.specs.inner.Rows.{dart_of_entry, darts_of}

-- ---- look-ups

abbrev pub dart_with : ℕ → Dart → DartRow
dart_with d dart = dart_of_entry (d, dart)

found_dart : (es : List (ℕ × Dart)) (d : ℕ) → dart_of (map dart_of_entry es) d ≡ option_map (dart_with d) (find nat_cmp d es)
found_dart [] d = refl
found_dart (e ∷ es) d =
    elim (cases_Bool (eqb e.0 d)) [
      | inl here ↦
          let same : e.0 ≡ d = eqb-true e.0 d here in
          let tied : eq_by_cmp nat_cmp d e.0 ≡ true = unsigned_tied d e.0 ∙ eq-eqb d e.0 (sym same) in
          rw (here, tied) (ap (λ x. Some (dart_with x e.1)) same)
      | inr other ↦
          let apart : eq_by_cmp nat_cmp d e.0 ≡ false = unsigned_tied d e.0 ∙ ne_eqb d e.0 (λ same. eqb-false e.0 d other (sym same)) in
          rw (other, apart) (found_dart es d)
    ]

-- the arena's dart of a name
pub dart_of_arena : (m : ArenaMap) (d : ℕ) → dart_of (darts_of m) d ≡ option_map (dart_with d) (get m.darts d)
dart_of_arena m d = found_dart (entries m.darts) d ∙ ap (option_map (dart_with d)) (sym (get-entries m.darts d))

-- a row is found where its dart is
pub row_of_dart : (darts : List DartRow) (d : ℕ) → row_of (rows_of darts) d ≡ option_map bare (dart_of darts d)
row_of_dart [] d = refl
row_of_dart (dart ∷ darts) d =
    elim (cases_Bool (eqb dart.name d)) [
      | inl here ↦ rw here refl
      | inr other ↦ rw other (row_of_dart darts d)
    ]

-- ---- the order of the names

below : (x y : ℕ) → T (is_lt (nat_cmp x y)) → x < y
below x y lt =
    elim (cases_order x y) [
      | inl e ↦ absurd (subst (λ o. T (is_lt o)) (ap (nat_cmp x) (sym e) ∙ sym (nat_cmp_is x x Equal refl)) lt)
      | inr (inl less) ↦ less
      | inr (inr more) ↦ absurd (subst (λ o. T (is_lt o)) (sym (nat_cmp_is x y Greater more)) lt)
    ]

first_part : (a b : Bool) → T (a && b) → T a
first_part true b h = tt
first_part false b h = h

second_part : (a b : Bool) → T (a && b) → T b
second_part true b h = h
second_part false b h = absurd h

later : (first : ℕ) (xs : List ℕ) (k : ℕ) → get_or xs k 0 < get_or xs (k + 1) 0 → get_or (first ∷ xs) (suc k) 0 < get_or (first ∷ xs) (suc k + 1) 0
later first xs k lt = let e : suc k + 1 ≡ suc (k + 1) = omega arith in rw e lt

rising : (es : List (ℕ × Dart)) → T (is_sorted nat_cmp es) → IsStrictlyIncreasing (names (map dart_of_entry es))
rising [] sorted k lt = absurd (omega arith)
rising (e ∷ []) sorted k lt = absurd (omega arith)
rising (e ∷ f ∷ es) sorted zero lt = below e.0 f.0 (first_part (is_lt (nat_cmp e.0 f.0)) (below_all nat_cmp e.0 es) (first_part (below_all nat_cmp e.0 (f ∷ es)) (is_sorted nat_cmp (f ∷ es)) sorted))
rising (e ∷ f ∷ es) sorted (suc k) lt = later (e.0) (names (map dart_of_entry (f ∷ es))) k (rising (f ∷ es) (second_part (below_all nat_cmp e.0 (f ∷ es)) (is_sorted nat_cmp (f ∷ es)) sorted) k (omega arith))

pub darts_ascending : (m : ArenaMap) → IsStrictlyIncreasing (names (darts_of m))
darts_ascending m = rising (entries m.darts) (entries_sorted m.darts)

names_are : (es : List (ℕ × Dart)) → names (map dart_of_entry es) ≡ map (λ e. e.0) es
names_are [] = refl
names_are (e ∷ es) = ap (λ ns. e.0 ∷ ns) (names_are es)

pub names_of_arena : (m : ArenaMap) → names (darts_of m) ≡ keys m.darts
names_of_arena m = names_are (entries m.darts)
