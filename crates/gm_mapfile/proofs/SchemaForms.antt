-- The form of a schema in a map's text: it is good, passes nothing, means the schema, and has the symbols of the schema's canonical text.
use Rattle.std.proofs.Common.{◌≡◌, ℕ, zero, suc, ◌<◌, ◌≤◌, ◌||◌, Bool, true, false, eqb, ltb, List, [], ◌∷◌, ◌++◌, map, slice_get, Some, None, refl, sym, ap, ◌∙◌, arith}
use Rattle.std.specs.List.{AllByRecursion}
use Rattle.std.specs.Str.{bytes_eq}
use Rattle.std.proofs.lemmas.Bool.{le-ltb, ne_eqb}
use Rattle.std.proofs.lemmas.List.{map-append}
use Rattle.std.proofs.lemmas.Map.Views.{Contains-from_any}
use Rattle.std.proofs.lemmas.Slice.Eq.{bytes_eq-Decides}
use Rattle.gm_model.specs.declared.schema.Embed.{Embed}
use Rattle.gm_model.specs.declared.schema.Schema.{Schema}
use Rattle.gm_model.specs.Maps.{IsSchema}
use Rattle.gm_model.specs.Names.{reserved, IsReserved, is_among}
use Rattle.gm_model.specs.Reading.{Part, IsWithin, symbols_in, in_role}
use Rattle.gm_model.specs.Symbols.{Symbol, Numeral}
use Rattle.gm_text.specs.inner.SchemaPrinting.{AreParts}
use Rattle.gm_text.specs.SchemaText as schema
use Rattle.gm_text.proofs.Printed.{symbols_from}
use Rattle.gm_text.proofs.SchemaAgain.{forms_of, schema_form, same_embeds, embeds_pass, canonical_symbols}
use Rattle.gm_text.proofs.SchemaGrammar.{spell_before}
use Rattle.gm_text.proofs.SchemaSound.{IsGood, IsNew, AreNew}
use Rattle.gm_mapfile.specs.MapText.{Role, InSchema, passed_of, IsSentence}

-- ---- what a schema owes, embedding by embedding

-- what holds at each place holds of all
all_at : {A : Type 0} {P : A → Type 0} (xs : List A) → ((k : ℕ) (x : A) → slice_get xs k ≡ Some x → P x) → AllByRecursion P xs
all_at [] each = tt
all_at (x ∷ xs) each = (each zero x refl, all_at xs (λ k y at. each (suc k) y at))

not_among : (names : List (List ℕ)) (name : List ℕ) → ((y : Unit {0}) → is_among names name ≡ true → ⊥) → is_among names name ≡ false
not_among names name h = go (is_among names name) refl
  where
    go : (b : Bool) → is_among names name ≡ b → is_among names name ≡ false
    go true e = absurd (h tt e)
    go false e = e

free_name : (name : List ℕ) → (IsReserved name → ⊥) → is_among reserved name ≡ false
free_name name free = not_among reserved name (λ _ among. free (Contains-from_any (λ a b e. (bytes_eq-Decides a b).0 e) name reserved among))

are_good : (schema : Schema) → IsSchema schema → AllByRecursion (IsGood schema.dim) schema.embeds
are_good schema is = all_at schema.embeds (λ e embed at. record { kind = is.kinds e embed at; labels = λ i there. is.labels e i embed at there; free = free_name embed.name (is.free e embed at) })

among_last : (declared : List Embed) (first : Embed) (name : List ℕ) → is_among (schema.names_in declared) name ≡ false → bytes_eq name first.name ≡ false → is_among (schema.names_in (declared ++ first ∷ [])) name ≡ false
among_last [] first name new other = rw other refl
among_last (embed ∷ declared) first name new other = go (among_last declared first name) (bytes_eq name embed.name) refl
  where
    go : (is_among (schema.names_in declared) name ≡ false → bytes_eq name first.name ≡ false → is_among (schema.names_in (declared ++ first ∷ [])) name ≡ false) → (b : Bool) → bytes_eq name embed.name ≡ b → is_among (schema.names_in ((embed ∷ declared) ++ first ∷ [])) name ≡ false
    go later true e = let no_way : true ≡ false = sym (ap (λ (b : Bool). b || is_among (schema.names_in declared) name) e) ∙ new in absurd cc
    go later false e =
        let behind : is_among (schema.names_in declared) name ≡ false = sym (ap (λ (b : Bool). b || is_among (schema.names_in declared) name) e) ∙ new in
        ap (λ (b : Bool). b || is_among (schema.names_in (declared ++ first ∷ [])) name) e ∙ later behind other

other_name : (x y : List ℕ) → (x ≡ y → ⊥) → bytes_eq x y ≡ false
other_name x y other = go (bytes_eq x y) refl
  where
    go : (b : Bool) → bytes_eq x y ≡ b → bytes_eq x y ≡ false
    go true e = absurd (other ((bytes_eq-Decides x y).0 e))
    go false e = e

are_new : (declared embeds : List Embed) → ((e : ℕ) (embed : Embed) → slice_get embeds e ≡ Some embed → IsNew declared embed)
    → ((e e' : ℕ) (embed embed' : Embed) → slice_get embeds e ≡ Some embed → slice_get embeds e' ≡ Some embed' → embed.name ≡ embed'.name → e ≡ e') → AreNew declared embeds
are_new declared [] new differ = tt
are_new declared (first ∷ embeds) new differ = (new zero first refl, are_new (declared ++ first ∷ []) embeds behind later)
  where
    behind : (e : ℕ) (embed : Embed) → slice_get embeds e ≡ Some embed → IsNew (declared ++ first ∷ []) embed
    behind e embed at = among_last declared first embed.name (new (suc e) embed at) (other_name embed.name first.name (λ same. let no_way : suc e ≡ zero = differ (suc e) zero embed first at refl same in omega (arith, no_way)))

    later : (e e' : ℕ) (embed embed' : Embed) → slice_get embeds e ≡ Some embed → slice_get embeds e' ≡ Some embed' → embed.name ≡ embed'.name → e ≡ e'
    later e e' embed embed' at at' same = let next : suc e ≡ suc e' = differ (suc e) (suc e') embed embed' at at' same in omega (arith, next)

-- ---- the form passes nothing

pub form_passes : (s : Schema) → IsSchema s → AreParts s.embeds → 0 < s.dim → s.dim ≤ 7 → IsWithin schema.IsSentence schema.passed_of (schema.spell (schema_form s) [])
form_passes s is parts low high =
    let some : eqb s.dim 0 ≡ false = ne_eqb s.dim 0 (λ e. omega (arith, low, e)) in
    let top : ltb 7 s.dim ≡ false = le-ltb 7 s.dim high in
    let dim : schema.passed_of schema.Dimension (Numeral s.dim) ≡ None = rw (some, top) refl in
    (refl, (dim, embeds_pass s.dim [] s.embeds parts (are_good s is) (are_new [] s.embeds (λ _ _ _. refl) is.differ) (omega (arith, is.count))))

pub passes_in : (parts : List (Part schema.Role)) (rest : List (Part Role)) → IsWithin schema.IsSentence schema.passed_of parts → IsWithin IsSentence passed_of rest → IsWithin IsSentence passed_of (map (in_role InSchema) parts ++ rest)
passes_in [] rest within behind = behind
passes_in (part ∷ parts) rest within behind = (within.0, passes_in parts rest within.1 behind)

-- ---- it is good

pub form_good : (s : Schema) → IsSchema s → schema.IsForm (schema_form s)
form_good s is = go s.embeds (are_good s is)
  where
    go : (embeds : List Embed) → AllByRecursion (IsGood s.dim) embeds → AllByRecursion schema.IsEmbed (forms_of embeds)
    go [] all = tt
    go (embed ∷ embeds) all = ((all.0.free, all.0.kind), go embeds all.1)

pub form_means : (s : Schema) → AreParts s.embeds → schema.schema_of (schema_form s) ≡ s
form_means s parts = ap (λ (embeds : List Embed). let one : Schema = record { dim = s.dim; embeds = embeds } in one) (same_embeds s.embeds parts)

-- ---- its symbols

beyond_symbols : (others : List Symbol) → symbols_in (map schema.beyond others) ≡ others
beyond_symbols [] = refl
beyond_symbols (symbol ∷ others) = ap (λ (ss : List Symbol). symbol ∷ ss) (beyond_symbols others)

in_symbols : (parts : List (Part schema.Role)) (rest : List (Part Role)) → symbols_in (map (in_role InSchema) parts ++ rest) ≡ symbols_in parts ++ symbols_in rest
in_symbols [] rest = refl
in_symbols (part ∷ parts) rest = ap (λ (ss : List Symbol). part.symbol ∷ ss) (in_symbols parts rest)

-- before anything
pub schema_symbols : (s : Schema) (more : List ℕ) (rest : List (Part Role)) → s.dim ≤ 7 → AreParts s.embeds → symbols_from more ≡ symbols_in rest
    → symbols_from (schema.canonical s ++ more) ≡ symbols_in (map (in_role InSchema) (schema.spell (schema_form s) []) ++ rest)
schema_symbols s more rest low parts behind =
    let others = map schema.beyond (symbols_from more) in
    let form = schema.spell (schema_form s) [] in
    canonical_symbols s more others low parts (sym (beyond_symbols (symbols_from more)))
    ∙ ap symbols_in (sym (spell_before (schema_form s) others))
    ∙ map-append (λ (part : Part schema.Role). part.symbol) form others
    ∙ ap (λ (ss : List Symbol). symbols_in form ++ ss) (beyond_symbols (symbols_from more) ∙ behind)
    ∙ sym (in_symbols form rest)
