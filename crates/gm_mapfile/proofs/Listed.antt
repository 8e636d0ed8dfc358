-- What a text that lists darts owes by its grammar and its limits: a schema, whole darts, and numbers within the limits.
use Rattle.std.proofs.Common.{◌≡◌, ◌||◌, ℕ, suc, ◌<◌, ◌≤◌, Bool, true, false, cond, List, [], ◌∷◌, ◌++◌, length, map, Some, None, All, refl, sym, ap, ap₂, subst, ◌∙◌, arith}
use Rattle.std.specs.Prelude.{nat_lt, ◌==◌}
use Rattle.std.specs.List.{AllByRecursion}
use Rattle.std.proofs.lemmas.Bool.Decides.{nat_tests}
use Rattle.std.proofs.lemmas.List.Elements.{All-nil, All-cons}
use Rattle.gm_model.specs.declared.limit.LimitKind.TheVariants as limits
use Rattle.gm_model.specs.declared.schema.Embed.{Embed}
use Rattle.gm_model.specs.declared.schema.Schema.{Schema}
use Rattle.gm_model.specs.declared.value.Kind.{Kind}
use Rattle.gm_model.specs.declared.value.Value.{Value}
use Rattle.gm_model.specs.Limits.{most_darts, most_names}
use Rattle.gm_model.specs.Maps.{IsSchema}
use Rattle.gm_model.specs.Reading.{Part, IsWithin, symbols_in, in_role}
use Rattle.gm_model.specs.Values.{IsInValueRange}
use Rattle.gm_text.specs.inner.SchemaPrinting.{AreParts}
use Rattle.gm_text.specs.SchemaText.{SchemaForm}
use Rattle.gm_text.specs.SchemaText as schemas
use Rattle.gm_text.specs.ValueText.{Signed}
use Rattle.gm_text.proofs.Lexemes.{IsSound, words_are_lexemes}
use Rattle.gm_text.proofs.SchemaSound.{nothing_passed, form_sound, form_parts, dim_read}
use Rattle.gm_arena.specs.inner.Lawful.{AreGoodValues}
use Rattle.gm_mapfile.specs.MapText.{Version, DartForm, DartRow, Role, InSchema, spell_next, spell_listing, embeds_of, spelling, IsShaped, AreMade, IsListed}
use Rattle.gm_mapfile.proofs.Zipped.{AreRows}
use Rattle.gm_mapfile.specs.MapReading.{AreOfKinds, IsWhole}
use Rattle.gm_mapfile.proofs.GoodListing.{IsSmall, IsStatedSmall, IsGoodListing}
use Rattle.gm_mapfile.proofs.FormWithin.{form_good}
use Rattle.gm_mapfile.proofs.MapWithin.{IsGoodForm}
use Rattle.gm_mapfile.proofs.OneListing.{shaped_in}

-- ---- the schema

dim_positive : (n : ℕ) → cond ((n == 0) || nat_lt 7 n) (Some limits.Dimension) None ≡ None → 0 < n
dim_positive n e = go (n == 0) refl e
  where
    go : (b : Bool) → (n == 0) ≡ b → cond (b || nat_lt 7 n) (Some limits.Dimension) None ≡ None → 0 < n
    go true f e = absurd cc
    go false f e = grind (arith, nat_tests, f)

dim_good : (form : SchemaForm) → IsWithin schemas.IsSentence schemas.passed_of (schemas.spell form []) → (0 < form.dim) × (form.dim ≤ 7)
dim_good form within = (dim_positive form.dim (nothing_passed _ _ within.1.0).0, dim_read form within)

sound_schema : (parts : List (Part schemas.Role)) (rest : List (Part Role)) → AllByRecursion IsSound (symbols_in (map (in_role InSchema) parts ++ rest)) → AllByRecursion IsSound (symbols_in parts)
sound_schema [] rest sound = tt
sound_schema (part ∷ parts) rest sound = (sound.0, sound_schema parts rest sound.1)

-- ---- the darts

values_good : (embeds : List Embed) (written : List (List Signed)) (vs : List Value) → AreMade embeds written vs → AreOfKinds embeds vs × All IsInValueRange vs
values_good [] [] [] made = (refl, All-nil IsInValueRange)
values_good (embed ∷ embeds) (xs ∷ written) (v ∷ vs) made =
    let others = values_good embeds written vs made.1 in
    (ap₂ (λ (k : Kind) (ks : List Kind). k ∷ ks) made.0.is_value.kind_is others.0, All-cons IsInValueRange v vs made.0.is_value.range others.1)
values_good [] [] (v ∷ vs) made = absurd made
values_good [] (xs ∷ written) vs made = absurd made
values_good (embed ∷ embeds) [] vs made = absurd made
values_good (embed ∷ embeds) (xs ∷ written) [] made = absurd made

record AreGoodDarts (schema : Schema) (forms : List DartForm) (darts : List DartRow) : Type 0 where
  whole : AllByRecursion (IsWhole schema) darts
  values : AllByRecursion (λ (dart : DartRow). AreGoodValues schema dart.values) darts
  small : AllByRecursion IsSmall darts
  counted : length darts ≡ length forms

darts_good : (schema : Schema) (forms : List DartForm) (darts : List DartRow) → AllByRecursion (IsShaped schema.dim schema.embeds) forms → AllByRecursion (IsGoodForm schema.embeds) forms → AreRows schema.embeds forms darts → AreGoodDarts schema forms darts
darts_good schema [] [] shaped good rows = record { whole = tt; values = tt; small = tt; counted = refl }
darts_good schema (form ∷ forms) (dart ∷ darts) shaped good rows =
    let others = darts_good schema forms darts shaped.1 good.1 rows.1 in
    let row = rows.0 in
    let values = values_good schema.embeds form.values dart.values row.made in
    record {
      whole = ((ap length row.alphas_are ∙ shaped.0.0, values.0), others.whole);
      values = (record { kinds = values.0; ranges = values.1 }, others.values);
      small = ((subst (λ (n : ℕ). n < most_names) (sym row.name_is) good.0.name, subst (λ (ns : List ℕ). AllByRecursion (λ a. a < most_names) ns) (sym row.alphas_are) good.0.alphas), others.small);
      counted = ap suc others.counted;
    }
darts_good schema [] (dart ∷ darts) shaped good rows = absurd rows
darts_good schema (form ∷ forms) [] shaped good rows = absurd rows

-- ---- the whole

pub listed_good : (text : List ℕ) (version : Version) (schema : Schema) (darts : List DartRow) → IsListed text version schema darts → IsGoodListing version schema darts
listed_good text version schema darts listed =
    let form = listed.form in
    let within = form_good form listed.written.read.within in
    let sound : AllByRecursion IsSound (symbols_in (spelling form)) = subst (AllByRecursion IsSound) listed.written.read.spelled (words_are_lexemes text 0) in
    let inside = sound_schema (schemas.spell form.schema []) (spell_next form.version (spell_listing (embeds_of form) form.darts)) sound.1.1 in
    let good = darts_good schema form.darts darts (shaped_in text version schema darts listed) (subst (λ (s : Schema). AllByRecursion (IsGoodForm s.embeds) form.darts) (sym listed.schema_is) within.darts) listed.rows in
    record {
      declared = subst IsSchema (sym listed.schema_is) (form_sound form.schema listed.written.good.0 within.schema);
      parts = subst (λ (s : Schema). AreParts s.embeds) (sym listed.schema_is) (form_parts form.schema within.schema inside);
      dim = subst (λ (s : Schema). (0 < s.dim) × (s.dim ≤ 7)) (sym listed.schema_is) (dim_good form.schema within.schema);
      whole = good.whole;
      values = good.values;
      small = good.small;
      few = subst (λ (k : ℕ). k ≤ most_darts) (sym good.counted) within.few;
      next = subst IsStatedSmall listed.version_is within.next;
    }
