-- Darts whose numbers are those of forms in range are what the forms say.
use Rattle.std.proofs.Common.{◌≡◌, ◌≢◌, suc, ℤ, pos, List, [], ◌∷◌, ◌++◌, length, map, sym, ap, subst, ◌∙◌, append_assoc}
use Rattle.std.proofs.lemmas.List.{length-map}
use Rattle.std.specs.List.{flat_map, AllByRecursion}
use Rattle.gm_model.specs.declared.schema.Embed.{Embed}
use Rattle.gm_model.specs.declared.schema.Schema.{Schema}
use Rattle.gm_model.specs.declared.value.Kind.{Kind}
use Rattle.gm_model.specs.declared.value.Kind.TheVariants as kinds
use Rattle.gm_model.specs.declared.value.Value.{Value}
use Rattle.gm_model.specs.Expressions.{IsMade, components}
use Rattle.gm_model.specs.Values.{kind_of}
use Rattle.gm_text.specs.SchemaText.{EmbedForm, embed_of, IsEmbed}
use Rattle.gm_text.specs.ValueText.{Signed, integer}
use Rattle.gm_mapfile.specs.MapText.{DartForm, DartRow, width, is_colour, IsShaped, AreMade, IsRow}
use Rattle.gm_mapfile.proofs.Zipped.{AreWide, AreRows}
use Rattle.gm_mapfile.specs.MapReading.{numbers_in, all_numbers, IsWhole}
use Rattle.gm_mapfile.proofs.MapLed.{form_numbers, all_form_numbers}
use Rattle.gm_mapfile.proofs.DartNumbers.{cut, same_names, wide_components}
use Rattle.gm_mapfile.proofs.MapWithin.{IsGoodNumber, AreInRange, IsGoodForm, value_in_range}

-- no embedding is one of truths
abbrev pub HaveNumbers : List Embed → Type 0
HaveNumbers embeds = AllByRecursion (λ (embed : Embed). embed.kind ≢ kinds.Bool) embeds

pub declared_numbers : (embeds : List EmbedForm) → AllByRecursion IsEmbed embeds → HaveNumbers (map embed_of embeds)
declared_numbers [] good = tt
declared_numbers (embed ∷ embeds) good = (good.0.1, declared_numbers embeds good.1)

made_of : (kind : Kind) (parts : List ℤ) (v : Value) → kind ≢ kinds.Bool → kind_of v ≡ kind → components v ≡ parts → AllByRecursion (IsGoodNumber (is_colour kind)) parts → IsMade kind parts v
made_of kind parts v numbers kind_is parts_are all = record {
  numbers = numbers;
  is_value = record {
    kind_is = kind_is;
    range = value_in_range v (subst (λ (k : Kind). AllByRecursion (IsGoodNumber (is_colour k)) (components v)) (sym kind_is) (subst (AllByRecursion (IsGoodNumber (is_colour kind))) (sym parts_are) all));
  };
  parts_are = parts_are;
}

values_made : (embeds : List Embed) (written : List (List Signed)) (vs : List Value) (rest more : List ℤ) → HaveNumbers embeds → AreWide embeds written → AreInRange embeds written → map kind_of vs ≡ map (λ (embed : Embed). embed.kind) embeds
    → flat_map components vs ++ rest ≡ flat_map (map integer) written ++ more → AreMade embeds written vs × (rest ≡ more)
values_made [] [] [] rest more numbers wide ranges kinds same = (tt, same)
values_made (embed ∷ embeds) (xs ∷ written) (v ∷ vs) rest more numbers wide ranges kinds same =
    let kind : kind_of v ≡ embed.kind = cc kinds in
    let others : map kind_of vs ≡ map (λ (e : Embed). e.kind) embeds = cc kinds in
    let long : length (components v) ≡ length (map integer xs) = wide_components v ∙ ap width kind ∙ sym wide.0 ∙ sym (length-map xs integer) in
    let behind = flat_map components vs ++ rest in
    let behind' = flat_map (map integer) written ++ more in
    let parts = cut (components v) (map integer xs) behind behind' long (sym (append_assoc (components v) (flat_map components vs) rest) ∙ same ∙ append_assoc (map integer xs) (flat_map (map integer) written) more) in
    let later = values_made embeds written vs rest more numbers.1 wide.1 ranges.1 others parts.1 in
    ((made_of embed.kind (map integer xs) v numbers.0 kind parts.0 ranges.0, later.0), later.1)
values_made [] [] (v ∷ vs) rest more numbers wide ranges kinds same = absurd cc
values_made [] (xs ∷ written) vs rest more numbers wide ranges kinds same = absurd wide
values_made (embed ∷ embeds) [] vs rest more numbers wide ranges kinds same = absurd wide
values_made (embed ∷ embeds) (xs ∷ written) [] rest more numbers wide ranges kinds same = absurd cc

module _ (schema : Schema) (numbers : HaveNumbers schema.embeds) where
  row_is : (form : DartForm) (dart : DartRow) (rest more : List ℤ) → IsShaped schema.dim schema.embeds form → IsGoodForm schema.embeds form → IsWhole schema dart → numbers_in dart ++ rest ≡ form_numbers form ++ more → IsRow schema.embeds form dart × (rest ≡ more)
  row_is form dart rest more shaped good whole same =
      let line = dart.name ∷ dart.alphas in
      let line' = form.name ∷ form.alphas in
      let long : length (map pos line) ≡ length (map pos line') = length-map line pos ∙ ap suc (whole.0 ∙ sym shaped.0) ∙ sym (length-map line' pos) in
      let values = flat_map components dart.values in
      let values' = flat_map (map integer) form.values in
      let parts = cut (map pos line) (map pos line') (values ++ rest) (values' ++ more) long (sym (append_assoc (map pos line) values rest) ∙ same ∙ append_assoc (map pos line') values' more) in
      let names : line ≡ line' = same_names line line' parts.0 in
      let name : dart.name ≡ form.name = cc names in
      let alphas : dart.alphas ≡ form.alphas = cc names in
      let made = values_made schema.embeds form.values dart.values rest more numbers shaped.1 good.ranges whole.1 parts.1 in
      (record { name_is = name; alphas_are = alphas; made = made.0 }, made.1)

  pub rows_are : (forms : List DartForm) (darts : List DartRow) → AllByRecursion (IsShaped schema.dim schema.embeds) forms → AllByRecursion (IsGoodForm schema.embeds) forms → AllByRecursion (IsWhole schema) darts
      → all_numbers darts ≡ all_form_numbers forms → AreRows schema.embeds forms darts
  rows_are [] [] shaped good whole same = tt
  rows_are (form ∷ forms) (dart ∷ darts) shaped good whole same =
      let first = row_is form dart (all_numbers darts) (all_form_numbers forms) shaped.0 good.0 whole.0 same in
      (first.0, rows_are forms darts shaped.1 good.1 whole.1 first.1)
  rows_are [] (dart ∷ darts) shaped good whole same = absurd cc
  rows_are (form ∷ forms) [] shaped good whole same = absurd cc
