-- The darts that an arena holds are those of its map, in ascending order of their names.
use Rattle.std.proofs.Common.{◌≡◌, ℕ, zero, suc, ◌+◌, ◌<◌, Bool, true, false, ◌&&◌, T, eqb, List, [], ◌∷◌, length, get_or, map, Option, Some, None, is_some, inl, inr, refl, sym, ap, subst, ◌∙◌, arith, pos}
use Rattle.std.specs.Prelude.{IsPermutation, slice_index_or}
use Rattle.std.specs.Option.{option_map, option_map_or}
use Rattle.std.specs.Ordering.{nat_cmp, is_lt, eq_by_cmp}
use Rattle.std.specs.Cmp.{nat_cmp_is, unsigned_tied}
use Rattle.std.specs.FinMap.{get, entries, find, is_sorted, get-entries, entries_sorted}
use Rattle.std.specs.FinMap.Entries.{below_all}
use Rattle.std.specs.declared.cmp.Ordering.TheVariants.{Equal, Greater}
use Rattle.std.specs.List.Sorted.{IsStrictlyIncreasing}
use Rattle.std.proofs.lemmas.Bool.{cases_Bool, cases_order, eqb-true, eq-eqb, ne_eqb, eqb-false}
use Rattle.std.proofs.lemmas.List.{same_lists, get_or_default}
use Rattle.gm_model.specs.declared.schema.Schema.{Schema}
use Rattle.gm_model.specs.declared.value.Value.{Value}
use Rattle.gm_model.specs.declared.value.Value.TheVariants.{Int}
use Rattle.gm_model.specs.GMap.{Row, row_of, IsLive}
use Rattle.gm_model.specs.GMap as written
use Rattle.gm_arena.specs.inner.ArenaAsMap.{as_map, value}
use Rattle.gm_arena.specs.inner.ArenaMap.{ArenaMap, Dart, IsLiveName, alpha}
use Rattle.gm_mapfile.specs.MapText.{Version, DartRow, bare, names, rows_of, dart_of, value_in, map_of}
use Rattle.gm_mapfile.specs.inner.Rows.{dart_of_entry, darts_of, listed_of}
use Rattle.gm_mapfile.specs.inner.Building.{IsHeld}
use Rattle.gm_mapfile.proofs.Chunks.{AreLong}
use Rattle.gm_mapfile.proofs.Darts.{row_of_dart, live_dart, is_some-map, shape_found}
use Rattle.gm_mapfile.proofs.Permuted.{split_found, same_permuted, distinct_ascending}

-- ---- look-ups

abbrev pub row_with : ℕ → Dart → DartRow
row_with d dart = record { name = d; alphas = dart.alphas; values = dart.values }

found_dart : (es : List (ℕ × Dart)) (d : ℕ) → dart_of (map dart_of_entry es) d ≡ option_map (row_with d) (find nat_cmp d es)
found_dart [] d = refl
found_dart (e ∷ es) d =
    elim (cases_Bool (eqb e.0 d)) [
      | inl here ↦
          let same : e.0 ≡ d = eqb-true e.0 d here in
          let tied : eq_by_cmp nat_cmp d e.0 ≡ true = unsigned_tied d e.0 ∙ eq-eqb d e.0 (sym same) in
          rw (here, tied) (ap (λ x. Some (row_with x e.1)) same)
      | inr other ↦
          let apart : eq_by_cmp nat_cmp d e.0 ≡ false = unsigned_tied d e.0 ∙ ne_eqb d e.0 (λ same. eqb-false e.0 d other (sym same)) in
          rw (other, apart) (found_dart es d)
    ]

pub row_of_held : (m : ArenaMap) (d : ℕ) → dart_of (darts_of m) d ≡ option_map (row_with d) (get m.darts d)
row_of_held m d = found_dart (entries m.darts) d ∙ ap (option_map (row_with d)) (sym (get-entries m.darts d))

-- ---- the order of the names

below : (x y : ℕ) → T (is_lt (nat_cmp x y)) → x < y
below x y lt =
    elim (cases_order x y) [
      | inl e ↦ absurd (subst (λ o. T (is_lt o)) (ap (nat_cmp x) (sym e) ∙ sym (nat_cmp_is x x Equal refl)) lt)
      | inr (inl less) ↦ less
      | inr (inr more) ↦ absurd (subst (λ o. T (is_lt o)) (sym (nat_cmp_is x y Greater more)) lt)
    ]

first_part : (a b : Bool) → T (a && b) → T a
first_part true b h = tt
first_part false b h = h

second_part : (a b : Bool) → T (a && b) → T b
second_part true b h = h
second_part false b h = absurd h

later : (first : ℕ) (xs : List ℕ) (k : ℕ) → get_or xs k 0 < get_or xs (k + 1) 0 → get_or (first ∷ xs) (suc k) 0 < get_or (first ∷ xs) (suc k + 1) 0
later first xs k lt = let e : suc k + 1 ≡ suc (k + 1) = omega arith in rw e lt

rising : (es : List (ℕ × Dart)) → T (is_sorted nat_cmp es) → IsStrictlyIncreasing (names (map dart_of_entry es))
rising [] sorted k lt = absurd (omega arith)
rising (e ∷ []) sorted k lt = absurd (omega arith)
rising (e ∷ f ∷ es) sorted zero lt = below e.0 f.0 (first_part (is_lt (nat_cmp e.0 f.0)) (below_all nat_cmp e.0 es) (first_part (below_all nat_cmp e.0 (f ∷ es)) (is_sorted nat_cmp (f ∷ es)) sorted))
rising (e ∷ f ∷ es) sorted (suc k) lt = later (e.0) (names (map dart_of_entry (f ∷ es))) k (rising (f ∷ es) (second_part (below_all nat_cmp e.0 (f ∷ es)) (is_sorted nat_cmp (f ∷ es)) sorted) k (omega arith))

pub held_ascending : (m : ArenaMap) → IsStrictlyIncreasing (names (darts_of m))
held_ascending m = rising (entries m.darts) (entries_sorted m.darts)

-- ---- the darts

module _ (version : Version) (schema : Schema) (darts : List DartRow) (m : ArenaMap) (held : IsHeld version schema darts m) (long : AreLong schema.dim darts) where
  same_alphas : (d : ℕ) (r : DartRow) (dart : Dart) → dart_of darts d ≡ Some r → get m.darts d ≡ Some dart → r.alphas ≡ dart.alphas
  same_alphas d r dart is there =
      let wide : length r.alphas ≡ schema.dim + 1 = shape_found (λ (x : DartRow). length x.alphas ≡ schema.dim + 1) darts d r long is in
      let wide' : length dart.alphas ≡ schema.dim + 1 = held.whole d dart there in
      let row : row_of (rows_of darts) d ≡ Some (bare r) = row_of_dart darts d ∙ ap (option_map bare) is in
      let each : (i x : ℕ) → i < length r.alphas → get_or r.alphas i x ≡ get_or dart.alphas i x = λ i x lt.
      get_or_default r.alphas i x d lt
      ∙ (sym (ap (λ o. option_map_or (λ (row : Row). get_or row.alphas i d) o d) row)
      ∙ (sym (held.alphas d i (omega (arith, wide)))
      ∙ (ap (λ o. option_map_or (λ (x : Dart). get_or x.alphas i d) o d) there
      ∙ get_or_default dart.alphas i d x (omega (arith, wide, wide'))))) in
      same_lists r.alphas dart.alphas (wide ∙ sym wide') each

  same_values : (d : ℕ) (r : DartRow) (dart : Dart) → dart_of darts d ≡ Some r → get m.darts d ≡ Some dart → r.values ≡ dart.values
  same_values d r dart is there =
      let both : Some dart.values ≡ Some r.values =
      sym (ap (option_map (λ (x : Dart). x.values)) there) ∙ (held.values d ∙ ap (option_map (λ (x : DartRow). x.values)) is) in
      cc both

  same_dart : (d : ℕ) (r : DartRow) (dart : Dart) → dart_of darts d ≡ Some r → get m.darts d ≡ Some dart → r ≡ row_with d dart
  same_dart d r dart is there =
      let name : r.name ≡ d = (split_found darts d r is).3 in
      let alphas = same_alphas d r dart is there in
      let values = same_values d r dart is there in
      λ k. record { name = name k; alphas = alphas k; values = values k }

  live_both : (d : ℕ) → is_some (get m.darts d) ≡ is_some (dart_of darts d)
  live_both d = held.live d ∙ live_dart darts d

  same_found : (d : ℕ) → dart_of darts d ≡ option_map (row_with d) (get m.darts d)
  same_found d = go (dart_of darts d) (get m.darts d) refl refl
    where
      go : (o : Option DartRow) (p : Option Dart) → dart_of darts d ≡ o → get m.darts d ≡ p → o ≡ option_map (row_with d) p
      go None None is there = refl
      go None (Some dart) is there = let no : true ≡ false = sym (ap is_some there) ∙ (live_both d ∙ ap is_some is) in absurd cc
      go (Some r) None is there = let no : false ≡ true = sym (ap is_some there) ∙ (live_both d ∙ ap is_some is) in absurd cc
      go (Some r) (Some dart) is there = ap Some (same_dart d r dart is there)

  pub held_found : (d : ℕ) → dart_of darts d ≡ dart_of (darts_of m) d
  held_found d = same_found d ∙ sym (row_of_held m d)

  pub held_permuted : IsPermutation darts (darts_of m)
  held_permuted = same_permuted darts (darts_of m) held.distinct (distinct_ascending (darts_of m) (held_ascending m)) held_found

-- ---- what the list says is what the map says

abbrev pub none_value : Value
none_value = Int (pos 0)

module _ (m : ArenaMap) where
  row_alpha : (i d : ℕ) (o : Option Dart) → option_map_or (λ (row : Row). get_or row.alphas i d) (option_map bare (option_map (row_with d) o)) d ≡ option_map_or (λ (dart : Dart). get_or dart.alphas i d) o d
  row_alpha i d None = refl
  row_alpha i d (Some dart) = refl

  row_value : (e d : ℕ) (o : Option Dart) → option_map_or (λ (row : DartRow). slice_index_or row.values e none_value) (option_map (row_with d) o) none_value ≡ option_map_or (λ (dart : Dart). slice_index_or dart.values e none_value) o none_value
  row_value e d None = refl
  row_value e d (Some dart) = refl

  module _ (darts : List DartRow) (found : (d : ℕ) → dart_of darts d ≡ dart_of (darts_of m) d) where
    row_found : (d : ℕ) → row_of (rows_of darts) d ≡ option_map bare (option_map (row_with d) (get m.darts d))
    row_found d = row_of_dart darts d ∙ ap (option_map bare) (found d ∙ row_of_held m d)

    pub live_each : (d : ℕ) → is_some (row_of (rows_of darts) d) ≡ is_some (get m.darts d)
    live_each d = live_dart darts d ∙ (ap is_some (found d ∙ row_of_held m d) ∙ is_some-map (row_with d) (get m.darts d))

    pub alpha_each : (i d : ℕ) → written.alpha (rows_of darts) i d ≡ alpha m i d
    alpha_each i d = ap (λ o. option_map_or (λ (row : Row). get_or row.alphas i d) o d) (row_found d) ∙ row_alpha i d (get m.darts d)

    pub value_each : (e d : ℕ) → value_in darts e d ≡ value m e d
    value_each e d = ap (λ o. option_map_or (λ (row : DartRow). slice_index_or row.values e none_value) o none_value) (found d ∙ row_of_held m d) ∙ row_value e d (get m.darts d)

    -- what holds of the map holds of the list
    pub of_rows : (P : (ℕ → Type 0) → (ℕ → ℕ → ℕ) → (ℕ → ℕ → Value) → Type 0) → P (IsLiveName m) (alpha m) (value m) → P (IsLive (rows_of darts)) (written.alpha (rows_of darts)) (value_in darts)
    of_rows P h =
        let live : ◌≡◌ {A = ℕ → Type 0} (IsLiveName m) (IsLive (rows_of darts)) = λ k d. sym (live_each d) k ≡ true in
        let alphas : alpha m ≡ written.alpha (rows_of darts) = λ k i d. sym (alpha_each i d) k in
        let values : value m ≡ value_in darts = λ k e d. sym (value_each e d) k in
        subst (λ v. P (IsLive (rows_of darts)) (written.alpha (rows_of darts)) v) values (subst (λ a. P (IsLive (rows_of darts)) a (value m)) alphas (subst (λ l. P l (alpha m) (value m)) live h))

  -- the map in the arena is that of its list
  pub map_of_listed : as_map m ≡ map_of (listed_of m)
  map_of_listed =
      let same : (d : ℕ) → dart_of (darts_of m) d ≡ dart_of (darts_of m) d = λ d. refl in
      λ k. record {
        schema = m.schema;
        live = λ d. sym (live_each (darts_of m) same d) k;
        alpha = λ i d. sym (alpha_each (darts_of m) same i d) k;
        value = λ e d. sym (value_each (darts_of m) same e d) k;
        next = m.next;
      }
