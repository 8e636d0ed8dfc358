-- Darts by their names, and their rows without values.
use Rattle.std.proofs.Common.{◌≡◌, ◌≢◌, ℕ, Bool, true, false, cond, eqb, List, [], ◌∷◌, ◌++◌, length, Option, Some, None, is_some, inl, inr, refl, sym, ap, subst, ◌∙◌}
use Rattle.std.specs.List.{AllByRecursion}
use Rattle.std.specs.Option.{option_or, option_map}
use Rattle.std.proofs.lemmas.Bool.{cases_Bool, cases_eq, ne_eqb, eq-eqb}
use Rattle.std.proofs.lemmas.List.{map-append, length-map}
use Rattle.std.proofs.lemmas.List.Folds.{find-append}
use Rattle.gm_model.specs.GMap.{row_of}
use Rattle.gm_mapfile.specs.MapText.{DartRow, bare, rows_of, dart_of}
use Rattle.gm_mapfile.specs.MapFaults.{rows_named}
use Rattle.gm_mapfile.proofs.Named.{none_of, none_named}

pub is_some-map : {A B : Type 0} (f : A → B) (o : Option A) → is_some (option_map f o) ≡ is_some o
is_some-map f None = refl
is_some-map f (Some x) = refl

-- ---- rows

pub rows_append : (darts others : List DartRow) → rows_of (darts ++ others) ≡ rows_of darts ++ rows_of others
rows_append darts others = map-append bare darts others

pub length_rows_of : (darts : List DartRow) → length (rows_of darts) ≡ length darts
length_rows_of darts = length-map darts bare

pub row_of_dart : (darts : List DartRow) (d : ℕ) → row_of (rows_of darts) d ≡ option_map bare (dart_of darts d)
row_of_dart [] d = refl
row_of_dart (dart ∷ darts) d =
    elim (cases_Bool (eqb dart.name d)) [
      | inl here ↦ rw here refl
      | inr other ↦ rw other (row_of_dart darts d)
    ]

-- ---- look-ups

pub live_dart : (darts : List DartRow) (d : ℕ) → is_some (row_of (rows_of darts) d) ≡ is_some (dart_of darts d)
live_dart darts d = ap is_some (row_of_dart darts d) ∙ is_some-map bare (dart_of darts d)

abbrev pub has_name : ℕ → DartRow → Bool
has_name d dart = eqb dart.name d

found_in : (darts : List DartRow) (dart : DartRow) (d : ℕ) (o : Option DartRow) (b : Bool) → dart_of darts d ≡ o → eqb dart.name d ≡ b → dart_of (darts ++ dart ∷ []) d ≡ option_or o (cond b (Some dart) None)
found_in darts dart d o b is test = find-append (has_name d) darts (dart ∷ []) ∙ rw (is, test) refl

-- one dart more is found where none had its name
pub dart_of_push_new : (darts : List DartRow) (dart : DartRow) → dart_of darts dart.name ≡ None → dart_of (darts ++ dart ∷ []) dart.name ≡ Some dart
dart_of_push_new darts dart none = found_in darts dart dart.name None true none (eq-eqb dart.name dart.name refl)

pub dart_of_push_other : (darts : List DartRow) (dart : DartRow) (d : ℕ) → d ≢ dart.name → dart_of (darts ++ dart ∷ []) d ≡ dart_of darts d
dart_of_push_other darts dart d apart = go (dart_of darts d) refl
  where
    test : eqb dart.name d ≡ false
    test = ne_eqb dart.name d (λ e. apart (sym e))

    go : (o : Option DartRow) → dart_of darts d ≡ o → dart_of (darts ++ dart ∷ []) d ≡ dart_of darts d
    go None is = found_in darts dart d None false is test ∙ sym is
    go (Some r) is = found_in darts dart d (Some r) false is test ∙ sym is

-- and where one has it that one stays the first
pub dart_of_push_again : (darts : List DartRow) (dart : DartRow) (d : ℕ) → is_some (dart_of darts dart.name) ≡ true → dart_of (darts ++ dart ∷ []) d ≡ dart_of darts d
dart_of_push_again darts dart d there =
    elim (cases_eq d dart.name) [
      | inl e ↦ rw e (go (dart_of darts dart.name) refl)
      | inr apart ↦ dart_of_push_other darts dart d apart
    ]
  where
    go : (o : Option DartRow) → dart_of darts dart.name ≡ o → dart_of (darts ++ dart ∷ []) dart.name ≡ dart_of darts dart.name
    go None is = let none : false ≡ true = sym (ap is_some is) ∙ there in absurd cc
    go (Some r) is = found_in darts dart dart.name (Some r) true is (eq-eqb dart.name dart.name refl) ∙ sym is

pub none_of_named : (darts : List DartRow) (d : ℕ) → rows_named (rows_of darts) d ≡ 0 → dart_of darts d ≡ None
none_of_named darts d empty = none_of _ (sym (live_dart darts d) ∙ ap is_some (none_named (rows_of darts) d empty))

-- what holds of each dart holds of one that is found
pub shape_found : (P : DartRow → Type 0) (darts : List DartRow) (d : ℕ) (r : DartRow) → AllByRecursion P darts → dart_of darts d ≡ Some r → P r
shape_found P [] d r all is = absurd cc
shape_found P (dart ∷ darts) d r all is =
    elim (cases_Bool (eqb dart.name d)) [
      | inl here ↦ let found : Some dart ≡ Some r = rw here at is in let same : dart ≡ r = cc found in subst P same all.0
      | inr other ↦ let rest : dart_of darts d ≡ Some r = rw other at is in shape_found P darts d r all.1 rest
    ]
