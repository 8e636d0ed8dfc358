-- What is printed is read again: the canonical text of a map, in either version, stands for it.
use Rattle.std.proofs.Common.{◌≡◌, ℕ, zero, suc, ◌+◌, ◌^◌, ◌<◌, ◌≤◌, eqb, true, List, [], ◌∷◌, ◌++◌, length, map, is_some, inl, inr, refl, sym, ap, subst, ◌∙◌, codes, arith}
use Rattle.std.specs.Prelude.{IsPermutation}
use Rattle.std.specs.List.{AllByRecursion}
use Rattle.std.specs.List.Sorted.{IsStrictlyIncreasing}
use Rattle.std.proofs.lemmas.Bool.{cases_Bool, eqb-true}
use Rattle.std.proofs.lemmas.List.{length-map}
use Rattle.std.proofs.lemmas.List.Elements.{All-from_recursion, recursion_from_All}
use Rattle.std.proofs.lemmas.List.Sorted.{All-permutation, length_permutation, IsPermutation-refl}
use Rattle.gm_model.specs.declared.schema.Embed.{Embed}
use Rattle.gm_model.specs.declared.schema.Schema.{Schema}
use Rattle.gm_model.specs.GMap.{row_of}
use Rattle.gm_model.specs.Limits.{most_darts, most_names}
use Rattle.gm_model.specs.Maps.{IsSound}
use Rattle.gm_model.specs.Reading.{Part, IsWithin, symbols_in, word, number, in_role}
use Rattle.gm_model.specs.Symbols.{Symbol, Word, Numeral}
use Rattle.gm_text.specs.SchemaText as schema
use Rattle.gm_text.proofs.Printed.{symbols_from, symbols_of-from}
use Rattle.gm_text.proofs.SchemaAgain.{schema_form, same_embeds}
use Rattle.gm_arena.specs.inner.Lawful.{AreGoodValues}
use Rattle.gm_mapfile.specs.MapText.{Version, First, Second, Role, Fixed, InSchema, passed_of, number_of, spell_next, spell_listing, spelling, embeds_of, IsShaped, IsForm, IsSentence, DartRow, ListedMap, names, rows_of, map_of, IsListed, IsLeastAbove, IsNext, MapText, next_line, canonical}
use Rattle.gm_mapfile.specs.MapReading.{IsWhole}
use Rattle.gm_mapfile.specs.inner.Printing.{behind_last, renumbered, IsPrintableDart, IsPrintable}
use Rattle.gm_mapfile.specs.declared.version.MapVersion.{MapVersion}
use Rattle.gm_mapfile.specs.declared.version.MapVersion.TheVariants as versions
use Rattle.gm_mapfile.proofs.GoodListing.{IsSmall, IsGoodListing, IsStatedSmall}
use Rattle.gm_mapfile.proofs.Passing.{good_fitting, listing_passes, next_passes, darts_shaped, darts_meant}
use Rattle.gm_mapfile.proofs.SchemaForms.{form_passes, passes_in, form_good, form_means, schema_symbols}
use Rattle.gm_mapfile.proofs.Spelled.{dart_form, written_in, map_form, IsFitting, listing_text, listing_symbols, next_symbols, head_symbols}

-- what holds of each dart of a list, dart by dart
pub each : {A : Type 0} {P Q : A → Type 0} (xs : List A) → ((x : A) → P x → Q x) → AllByRecursion P xs → AllByRecursion Q xs
each [] f all = tt
each (x ∷ xs) f all = (f x all.0, each xs f all.1)

-- and in another order
pub moved : {A : Type 0} (P : A → Type 0) (xs ys : List A) → IsPermutation xs ys → AllByRecursion P xs → AllByRecursion P ys
moved P xs ys same all = recursion_from_All P ys (All-permutation P xs ys same (All-from_recursion P xs all))

-- ---- the canonical text lists the darts

module _ (version : MapVersion) (listed : ListedMap) (printable : IsPrintable listed) where
  fit : AllByRecursion (IsFitting listed.schema.embeds) listed.darts
  fit = each listed.darts (λ dart one. ((one.name_small, one.alphas_small), good_fitting listed.schema dart.values printable.schema one.values)) printable.darts

  counted : length (map dart_form listed.darts) ≤ most_darts
  counted = omega (arith, length-map listed.darts dart_form, printable.few)

  same : embeds_of (map_form version listed) ≡ listed.schema.embeds
  same = same_embeds listed.schema.embeds printable.parts

  abbrev listing : List Embed → List (Part Role)
  listing es = spell_listing es (map dart_form listed.darts)

  -- the spelling, where the darts' values go by these embeddings
  abbrev spelled_by : List Embed → List (Part Role)
  spelled_by es =
      word Fixed (codes "gmap") ∷ number Fixed (number_of (written_in version listed.next))
      ∷ (map (in_role InSchema) (schema.spell (schema_form listed.schema) []) ++ spell_next (written_in version listed.next) (listing es))

  spelled_with : symbols_from (canonical version listed) ≡ symbols_in (spelled_by listed.schema.embeds)
  spelled_with =
      let tail = listing_text listed.darts in
      let behind = next_line version listed.next ++ tail in
      let small : listed.next < 2 ^ 64 = omega (arith, printable.next) in
      let few : length listed.darts < 2 ^ 64 = omega (arith, printable.few) in
      head_symbols version listed.next (schema.canonical listed.schema ++ behind)
      ∙ ap (λ (ss : List Symbol). Word (codes "gmap") ∷ Numeral (number_of (written_in version listed.next)) ∷ ss)
      (schema_symbols listed.schema behind (spell_next (written_in version listed.next) (listing listed.schema.embeds)) printable.dim.1 printable.parts
      (next_symbols version listed.next tail (listing listed.schema.embeds) small (listing_symbols listed.schema.embeds listed.darts few fit)))

  within_with : IsWithin IsSentence passed_of (spelled_by listed.schema.embeds)
  within_with = (
    refl,
    (
      refl,
      passes_in (schema.spell (schema_form listed.schema) []) (spell_next (written_in version listed.next) (listing listed.schema.embeds))
          (form_passes listed.schema printable.schema printable.parts printable.dim.0 printable.dim.1)
          (next_passes version listed.next (listing listed.schema.embeds) printable.next (listing_passes listed.schema.embeds listed.darts counted fit)),
    ),
  )

  -- the form's own embeddings are the schema's
  at_embeds : (P : List (Part Role) → Type 0) → P (spelled_by listed.schema.embeds) → P (spelling (map_form version listed))
  at_embeds P h = subst (λ (es : List Embed). P (spelled_by es)) (sym same) h

  good : IsForm (map_form version listed)
  good =
      let shaped = darts_shaped listed.schema.dim listed.schema.embeds listed.darts (each listed.darts (λ dart one. one.long) printable.darts) fit in
      (form_good listed.schema printable.schema, subst (λ (es : List Embed). AllByRecursion (IsShaped listed.schema.dim es) (map dart_form listed.darts)) (sym same) shaped)

  pub canonical_lists : IsListed (canonical version listed) (written_in version listed.next) listed.schema listed.darts
  canonical_lists = record {
    form = map_form version listed;
    written = record {
      good = good;
      read = record {
        spelled = symbols_of-from (canonical version listed) ∙ at_embeds (λ parts. symbols_from (canonical version listed) ≡ symbols_in parts) spelled_with;
        sentence = (map_form version listed, good, refl);
        within = at_embeds (IsWithin IsSentence passed_of) within_with;
      };
    };
    version_is = refl;
    schema_is = sym (form_means listed.schema printable.parts);
    rows = darts_meant listed.schema.embeds listed.darts fit;
  }

-- ---- the next name

rest_rises : (x : ℕ) (xs : List ℕ) → IsStrictlyIncreasing (x ∷ xs) → IsStrictlyIncreasing xs
rest_rises x xs up k lt = let e : suc k + 1 ≡ suc (k + 1) = omega arith in let step = up (suc k) (omega arith) in rw e at step

below_last : (xs : List ℕ) → IsStrictlyIncreasing xs → AllByRecursion (λ x. x < behind_last xs) xs
below_last [] up = tt
below_last (x ∷ []) up = (omega arith, tt)
below_last (x ∷ y ∷ xs) up =
    let rest = below_last (y ∷ xs) (rest_rises x (y ∷ xs) up) in
    let first : x < y = up zero (omega arith) in
    (omega (arith, first, rest.0), rest)

last_least : (xs : List ℕ) (bound : ℕ) → AllByRecursion (λ x. x < bound) xs → behind_last xs ≤ bound
last_least [] bound all = omega arith
last_least (x ∷ []) bound all = omega (arith, all.0)
last_least (x ∷ y ∷ xs) bound all = last_least (y ∷ xs) bound all.1

pub least_above : (xs : List ℕ) → IsStrictlyIncreasing xs → IsLeastAbove xs (behind_last xs)
least_above xs up = record {
  above = All-from_recursion (λ x. x < behind_last xs) xs (below_last xs up);
  least = λ bound all. last_least xs bound (recursion_from_All (λ x. x < bound) xs all);
}

-- a dart's name is among the names
live_below : (darts : List DartRow) (bound d : ℕ) → AllByRecursion (λ x. x < bound) (names darts) → is_some (row_of (rows_of darts) d) ≡ true → d < bound
live_below [] bound d all live = absurd cc
live_below (dart ∷ darts) bound d all live =
    elim (cases_Bool (eqb dart.name d)) [
      | inl here ↦ omega (arith, all.0, eqb-true dart.name d here)
      | inr other ↦ let behind : is_some (row_of (rows_of darts) d) ≡ true = rw other at live in live_below darts bound d all.1 behind
    ]

-- soundness asks of the next name only that it lies above the others
pub sound_before : (listed : ListedMap) (next : ℕ) → AllByRecursion (λ x. x < next) (names listed.darts) → IsSound (map_of listed) → IsSound (map_of (record listed { next = next }))
sound_before listed next above sound = record {
  is_map = record { below = λ d live. live_below listed.darts next d above live; values = sound.is_map.values };
  generalised = sound.generalised;
  embedded = sound.embedded;
}

-- ---- a map's canonical text stands for it

pub printed : (version : MapVersion) (listed : ListedMap) → IsPrintable listed → MapText (canonical version listed) version (renumbered version listed)
printed versions.One listed printable = record {
  written = First;
  darts = listed.darts;
  listed = canonical_lists versions.One listed printable;
  version_is = refl;
  same = IsPermutation-refl listed.darts;
  ascending = printable.ascending;
  next_is = least_above (names listed.darts) printable.ascending;
  sound = sound_before listed (behind_last (names listed.darts)) (below_last (names listed.darts) printable.ascending) printable.sound;
}
printed versions.Two listed printable = record {
  written = Second listed.next;
  darts = listed.darts;
  listed = canonical_lists versions.Two listed printable;
  version_is = refl;
  same = IsPermutation-refl listed.darts;
  ascending = printable.ascending;
  next_is = refl;
  sound = printable.sound;
}

-- ---- a map that a text stands for can be printed

both : {A : Type 0} (P Q : A → Type 0) (xs : List A) → AllByRecursion P xs → AllByRecursion Q xs → AllByRecursion (λ x. P x × Q x) xs
both P Q [] all others = tt
both P Q (x ∷ xs) all others = ((all.0, others.0), both P Q xs all.1 others.1)

next_small : (written : Version) (listed : ListedMap) → IsStatedSmall written → AllByRecursion (λ x. x < most_names) (names listed.darts) → IsNext written (names listed.darts) listed.next → listed.next ≤ most_names
next_small First listed stated small is = is.least most_names (All-from_recursion (λ x. x < most_names) (names listed.darts) small)
next_small (Second next) listed stated small is = omega (arith, is, stated)

names_each : (darts : List DartRow) → AllByRecursion IsSmall darts → AllByRecursion (λ x. x < most_names) (names darts)
names_each [] all = tt
names_each (dart ∷ darts) all = (all.0.0, names_each darts all.1)

pub stands_printable : (text : List ℕ) (version : MapVersion) (listed : ListedMap) (stands : MapText text version listed) → IsGoodListing stands.written listed.schema stands.darts → IsPrintable listed
stands_printable text version listed stands good =
    let AreGood : DartRow → Type 0 = λ (dart : DartRow). AreGoodValues listed.schema dart.values in
    let small = moved IsSmall stands.darts listed.darts stands.same good.small in
    let whole = moved (IsWhole listed.schema) stands.darts listed.darts stands.same good.whole in
    let values = moved AreGood stands.darts listed.darts stands.same good.values in
    record {
      schema = good.declared;
      parts = good.parts;
      dim = good.dim;
      few = omega (arith, good.few, length_permutation stands.darts listed.darts stands.same);
      darts = each listed.darts (λ dart one. let d : IsPrintableDart listed dart = record { name_small = one.0.0; alphas_small = one.0.1; long = omega (arith, one.1.0.0); values = one.1.1 } in d) (both IsSmall (λ dart. IsWhole listed.schema dart × AreGood dart) listed.darts small (both (IsWhole listed.schema) AreGood listed.darts whole values));
      ascending = stands.ascending;
      next = next_small stands.written listed good.next (names_each listed.darts small) stands.next_is;
      sound = stands.sound;
    }

-- by what holds of every text's listing
pub printed_again : ((text : List ℕ) (version : Version) (schema : Schema) (darts : List DartRow) → IsListed text version schema darts → IsGoodListing version schema darts)
    → (text : List ℕ) (read printed : MapVersion) (listed : ListedMap) → MapText text read listed → MapText (canonical printed listed) printed (renumbered printed listed)
printed_again good text read version listed stands = printed version listed (stands_printable text read listed stands (good text stands.written listed.schema stands.darts stands.listed))
