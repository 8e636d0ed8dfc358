-- The form of a map as it is printed, and its symbols: those of the canonical text.
use Rattle.std.proofs.Common.{◌≡◌, ◌≢◌, ℕ, suc, ◌^◌, ◌<◌, Bool, true, false, ℤ, pos, negsuc, List, [], ◌∷◌, ◌++◌, length, map, refl, sym, ap, subst, ◌∙◌, append_assoc, codes, arith}
use Rattle.std.specs.Prelude.{decimal}
use Rattle.std.specs.Fmt.{signed_decimal}
use Rattle.std.specs.List.{flat_map, AllByRecursion}
use lib.Signed.{mag}
use Rattle.gm_model.specs.declared.schema.Embed.{Embed}
use Rattle.gm_model.specs.declared.value.Kind.{Kind}
use Rattle.gm_model.specs.declared.value.Kind.TheVariants as kinds
use Rattle.gm_model.specs.declared.value.Value.{Value}
use Rattle.gm_model.specs.declared.value.Value.TheVariants as values
use Rattle.gm_model.specs.Expressions.{components}
use Rattle.gm_model.specs.Limits.{most_names}
use Rattle.gm_model.specs.Reading.{Part, symbols_in, sign, the_end}
use Rattle.gm_model.specs.Symbols.{Symbol, Word, Numeral, Sign}
use Rattle.gm_model.specs.Tokens.{is_digit, begins_two_byte_sign}
use Rattle.gm_model.specs.Values.{kind_of, IsInValueRange, IsValueOf}
use Rattle.gm_text.specs.ValueText.{Signed, spell_signed}
use Rattle.gm_text.proofs.Printed.{Stops, symbols_from, symbols_from-end, symbols_from-blank, symbols_from-word_blank, symbols_from-digits, symbols_from-decimal, symbols_from-decimal_blank, symbols_from-sign, signed_symbols, symbols_from-signed}
use Rattle.gm_text.proofs.SchemaAgain.{schema_form}
use Rattle.gm_mapfile.specs.MapText.{DartForm, Version, First, Second, MapForm, Role, Fixed, size_role, spell_value, spell_values, spell_dart, spell_darts, spell_listing, spell_next, number_of, DartRow, ListedMap, value_text, line_of, head_line, next_line}
use Rattle.gm_mapfile.proofs.Zipped.{spell_names}
use Rattle.gm_mapfile.specs.declared.version.MapVersion.{MapVersion}
use Rattle.gm_mapfile.specs.declared.version.MapVersion.TheVariants as versions
use Rattle.gm_mapfile.proofs.GoodListing.{IsSmall}

-- ---- the form

abbrev pub signed_of : ℤ → Signed
signed_of (pos n) = record { minus = false; size = n }
signed_of (negsuc n) = record { minus = true; size = suc n }

abbrev pub parts_of : Value → List Signed
parts_of value = map signed_of (components value)

abbrev pub dart_form : DartRow → DartForm
dart_form dart = record { name = dart.name; alphas = dart.alphas; values = map parts_of dart.values }

abbrev pub written_in : MapVersion → ℕ → Version
written_in versions.One next = First
written_in versions.Two next = Second next

abbrev pub map_form : MapVersion → ListedMap → MapForm
map_form version listed = record { version = written_in version listed.next; schema = schema_form listed.schema; darts = map dart_form listed.darts }

-- each value is one of its embedding's kind, and none is a truth
abbrev pub AreFitting : List Embed → List Value → Type 0
AreFitting [] [] = Unit {0}
AreFitting (embed ∷ embeds) (value ∷ values) = IsValueOf embed.kind value × (embed.kind ≢ kinds.Bool) × AreFitting embeds values
AreFitting _ _ = ⊥

-- a dart's name and its neighbours pass no limit, and its values fit
abbrev pub IsFitting : List Embed → DartRow → Type 0
IsFitting embeds dart = IsSmall dart × AreFitting embeds dart.values

-- ---- the symbols of a value

component_spelled : (size : Bool → Role) (z : ℤ) (parts : List (Part Role)) → symbols_in (spell_signed Fixed size (signed_of z) parts) ≡ signed_symbols z ++ symbols_in parts
component_spelled size (pos n) parts = refl
component_spelled size (negsuc n) parts = refl

component_symbols : (size : Bool → Role) (z : ℤ) (more : List ℕ) (parts : List (Part Role)) → mag z < 2 ^ 63 → Stops is_digit more → symbols_from more ≡ symbols_in parts
    → symbols_from (signed_decimal z ++ more) ≡ symbols_in (spell_signed Fixed size (signed_of z) parts)
component_symbols size z more parts small stops behind =
    symbols_from-signed z more small stops ∙ ap (λ (ss : List Symbol). signed_symbols z ++ ss) behind ∙ sym (component_spelled size z parts)

open_alone : (bytes : List ℕ) → begins_two_byte_sign 40 bytes ≡ false
open_alone [] = refl
open_alone (b ∷ bytes) = refl

close_alone : (bytes : List ℕ) → begins_two_byte_sign 41 bytes ≡ false
close_alone [] = refl
close_alone (b ∷ bytes) = refl

close_symbols : (more : List ℕ) (parts : List (Part Role)) → symbols_from more ≡ symbols_in parts → symbols_from (41 ∷ more) ≡ symbols_in (sign Fixed (codes ")") ∷ parts)
close_symbols more parts behind = symbols_from-sign 41 more refl (close_alone more) ∙ ap (λ (ss : List Symbol). Sign (codes ")") ∷ ss) behind

open_symbols : (more : List ℕ) (parts : List (Part Role)) → symbols_from more ≡ symbols_in parts → symbols_from (40 ∷ more) ≡ symbols_in (sign Fixed (codes "(") ∷ parts)
open_symbols more parts behind = symbols_from-sign 40 more refl (open_alone more) ∙ ap (λ (ss : List Symbol). Sign (codes "(") ∷ ss) behind

-- a number with a blank behind it
spaced : (size : Bool → Role) (z : ℤ) (more : List ℕ) (parts : List (Part Role)) → mag z < 2 ^ 63 → symbols_from more ≡ symbols_in parts
    → symbols_from (signed_decimal z ++ 32 ∷ more) ≡ symbols_in (spell_signed Fixed size (signed_of z) parts)
spaced size z more parts small behind = component_symbols size z (32 ∷ more) parts small refl (symbols_from-blank 32 more refl ∙ behind)

pair_symbols : (size : Bool → Role) (x y : ℤ) (more : List ℕ) (parts : List (Part Role)) → mag x < 2 ^ 63 → mag y < 2 ^ 63 → symbols_from more ≡ symbols_in parts
    → symbols_from ((40 ∷ (signed_decimal x ++ 32 ∷ (signed_decimal y ++ 41 ∷ []))) ++ more)
    ≡ symbols_in (sign Fixed (codes "(") ∷ spell_signed Fixed size (signed_of x) (spell_signed Fixed size (signed_of y) (sign Fixed (codes ")") ∷ parts)))
pair_symbols size x y more parts small_x small_y behind =
    let a = signed_decimal x in
    let b = signed_decimal y in
    let apart : (40 ∷ (a ++ 32 ∷ (b ++ 41 ∷ []))) ++ more ≡ 40 ∷ (a ++ 32 ∷ (b ++ 41 ∷ more)) = simp append_assoc in
    ap symbols_from apart
    ∙ open_symbols (a ++ 32 ∷ (b ++ 41 ∷ more)) _
    (spaced size x (b ++ 41 ∷ more) _ small_x (component_symbols size y (41 ∷ more) _ small_y refl (close_symbols more parts behind)))

triple_symbols : (size : Bool → Role) (x y z : ℤ) (more : List ℕ) (parts : List (Part Role)) → mag x < 2 ^ 63 → mag y < 2 ^ 63 → mag z < 2 ^ 63 → symbols_from more ≡ symbols_in parts
    → symbols_from ((40 ∷ (signed_decimal x ++ 32 ∷ (signed_decimal y ++ 32 ∷ (signed_decimal z ++ 41 ∷ [])))) ++ more)
    ≡ symbols_in (sign Fixed (codes "(") ∷ spell_signed Fixed size (signed_of x) (spell_signed Fixed size (signed_of y) (spell_signed Fixed size (signed_of z) (sign Fixed (codes ")") ∷ parts))))
triple_symbols size x y z more parts small_x small_y small_z behind =
    let a = signed_decimal x in
    let b = signed_decimal y in
    let c = signed_decimal z in
    let apart : (40 ∷ (a ++ 32 ∷ (b ++ 32 ∷ (c ++ 41 ∷ [])))) ++ more ≡ 40 ∷ (a ++ 32 ∷ (b ++ 32 ∷ (c ++ 41 ∷ more))) = simp append_assoc in
    ap symbols_from apart
    ∙ open_symbols (a ++ 32 ∷ (b ++ 32 ∷ (c ++ 41 ∷ more))) _
    (spaced size x (b ++ 32 ∷ (c ++ 41 ∷ more)) _ small_x
    (spaced size y (c ++ 41 ∷ more) _ small_y (component_symbols size z (41 ∷ more) _ small_z refl (close_symbols more parts behind))))

value_symbols : (v : Value) (more : List ℕ) (parts : List (Part Role)) → IsInValueRange v → kind_of v ≢ kinds.Bool → Stops is_digit more → symbols_from more ≡ symbols_in parts
    → symbols_from (value_text v ++ more) ≡ symbols_in (spell_value (kind_of v) (parts_of v) parts)
value_symbols (values.Int x) more parts range numeric stops behind = component_symbols (size_role false) x more parts range.sfits stops behind
value_symbols (values.Bool b) more parts range numeric stops behind = absurd (numeric refl)
value_symbols (values.Vec2 x y) more parts (x_fits, y_fits) numeric stops behind = pair_symbols (size_role false) x y more parts x_fits.sfits y_fits.sfits behind
value_symbols (values.Vec3 x y z) more parts (x_fits, y_fits, z_fits) numeric stops behind = triple_symbols (size_role false) x y z more parts x_fits.sfits y_fits.sfits z_fits.sfits behind
value_symbols (values.Rgb r g b) more parts (r_fits, g_fits, b_fits) numeric stops behind =
    triple_symbols (size_role true) (pos r) (pos g) (pos b) more parts (omega (arith, r_fits)) (omega (arith, g_fits)) (omega (arith, b_fits)) behind

of_kind : (kind : Kind) (v : Value) (more : List ℕ) (parts : List (Part Role)) → IsValueOf kind v → kind ≢ kinds.Bool → Stops is_digit more → symbols_from more ≡ symbols_in parts
    → symbols_from (value_text v ++ more) ≡ symbols_in (spell_value kind (parts_of v) parts)
of_kind kind v more parts is numeric stops behind =
    subst (λ (k : Kind). symbols_from (value_text v ++ more) ≡ symbols_in (spell_value k (parts_of v) parts)) is.kind_is
    (value_symbols v more parts is.range (subst (λ (k : Kind). k ≢ kinds.Bool) (sym is.kind_is) numeric) stops behind)

-- ---- of a line

abbrev values_text : List Value → List ℕ
values_text values = flat_map (λ v. 32 ∷ value_text v) values

abbrev names_text : List ℕ → List ℕ
names_text names = flat_map (λ a. 32 ∷ decimal a) names

values_stop : (values : List Value) (more : List ℕ) → Stops is_digit more → Stops is_digit (values_text values ++ more)
values_stop [] more stops = stops
values_stop (value ∷ values) more stops = refl

names_stop : (names more : List ℕ) → Stops is_digit more → Stops is_digit (names_text names ++ more)
names_stop [] more stops = stops
names_stop (name ∷ names) more stops = refl

values_symbols : (embeds : List Embed) (values : List Value) (more : List ℕ) (parts : List (Part Role)) → AreFitting embeds values → Stops is_digit more → symbols_from more ≡ symbols_in parts
    → symbols_from (values_text values ++ more) ≡ symbols_in (spell_values embeds (map parts_of values) parts)
values_symbols [] [] more parts fit stops behind = behind
values_symbols [] (value ∷ values) more parts fit stops behind = absurd fit
values_symbols (embed ∷ embeds) [] more parts fit stops behind = absurd fit
values_symbols (embed ∷ embeds) (value ∷ values) more parts (is, numeric, others) stops behind =
    ap symbols_from (append_assoc (32 ∷ value_text value) (values_text values) more)
    ∙ symbols_from-blank 32 (value_text value ++ (values_text values ++ more)) refl
    ∙ of_kind embed.kind value (values_text values ++ more) (spell_values embeds (map parts_of values) parts) is numeric (values_stop values more stops) (values_symbols embeds values more parts others stops behind)

names_symbols : (names more : List ℕ) (parts : List (Part Role)) → AllByRecursion (λ a. a < most_names) names → Stops is_digit more → symbols_from more ≡ symbols_in parts
    → symbols_from (names_text names ++ more) ≡ symbols_in (spell_names names parts)
names_symbols [] more parts small stops behind = behind
names_symbols (name ∷ names) more parts small stops behind =
    ap symbols_from (append_assoc (32 ∷ decimal name) (names_text names) more)
    ∙ symbols_from-blank 32 (decimal name ++ (names_text names ++ more)) refl
    ∙ symbols_from-decimal name (names_text names ++ more) (omega (arith, small.0)) (names_stop names more stops)
    ∙ ap (λ (ss : List Symbol). Numeral name ∷ ss) (names_symbols names more parts small.1 stops behind)

line_symbols : (embeds : List Embed) (dart : DartRow) (more : List ℕ) (parts : List (Part Role)) → IsFitting embeds dart → symbols_from more ≡ symbols_in parts
    → symbols_from (line_of dart ++ more) ≡ symbols_in (spell_dart embeds (dart_form dart) parts)
line_symbols embeds dart more parts ((name_small, small), fit) behind =
    let name = decimal dart.name in
    let alphas = names_text dart.alphas in
    let values = values_text dart.values in
    let apart : (name ++ (alphas ++ (values ++ 10 ∷ []))) ++ more ≡ name ++ (alphas ++ (values ++ 10 ∷ more)) = simp append_assoc in
    let stops : Stops is_digit (values ++ 10 ∷ more) = values_stop dart.values (10 ∷ more) refl in
    let those = values_symbols embeds dart.values (10 ∷ more) parts fit refl (symbols_from-blank 10 more refl ∙ behind) in
    ap symbols_from apart
    ∙ symbols_from-decimal dart.name (alphas ++ (values ++ 10 ∷ more)) (omega (arith, name_small)) (names_stop dart.alphas (values ++ 10 ∷ more) stops)
    ∙ ap (λ (ss : List Symbol). Numeral dart.name ∷ ss) (names_symbols dart.alphas (values ++ 10 ∷ more) (spell_values embeds (map parts_of dart.values) parts) small stops those)

lines_symbols : (embeds : List Embed) (darts : List DartRow) → AllByRecursion (IsFitting embeds) darts → symbols_from (flat_map line_of darts) ≡ symbols_in (spell_darts embeds (map dart_form darts) (the_end Fixed ∷ []))
lines_symbols embeds [] fit = symbols_from-end
lines_symbols embeds (dart ∷ darts) fit = line_symbols embeds dart (flat_map line_of darts) (spell_darts embeds (map dart_form darts) (the_end Fixed ∷ [])) fit.0 (lines_symbols embeds darts fit.1)

-- ---- of what stands before the lines

length_forms : (darts : List DartRow) → length (map dart_form darts) ≡ length darts
length_forms [] = refl
length_forms (dart ∷ darts) = ap suc (length_forms darts)

abbrev pub listing_text : List DartRow → List ℕ
listing_text darts = codes "darts " ++ (decimal (length darts) ++ (codes "\n" ++ flat_map line_of darts))

pub listing_symbols : (embeds : List Embed) (darts : List DartRow) → length darts < 2 ^ 64 → AllByRecursion (IsFitting embeds) darts → symbols_from (listing_text darts) ≡ symbols_in (spell_listing embeds (map dart_form darts))
listing_symbols embeds darts few fit =
    let lines = flat_map line_of darts in
    symbols_from-word_blank (codes "darts") 32 (decimal (length darts) ++ 10 ∷ lines) (refl, refl) refl
    ∙ ap (λ (ss : List Symbol). Word (codes "darts") ∷ ss)
    (symbols_from-decimal_blank (length darts) 10 lines few refl
    ∙ ap (λ (n : ℕ). Numeral n ∷ symbols_from lines) (sym (length_forms darts))
    ∙ ap (λ (ss : List Symbol). Numeral (length (map dart_form darts)) ∷ ss) (lines_symbols embeds darts fit))

pub next_symbols : (version : MapVersion) (next : ℕ) (more : List ℕ) (parts : List (Part Role)) → next < 2 ^ 64 → symbols_from more ≡ symbols_in parts
    → symbols_from (next_line version next ++ more) ≡ symbols_in (spell_next (written_in version next) parts)
next_symbols versions.One next more parts small behind = behind
next_symbols versions.Two next more parts small behind =
    let apart : (codes "next " ++ (decimal next ++ codes "\n")) ++ more ≡ codes "next" ++ 32 ∷ (decimal next ++ 10 ∷ more) = simp append_assoc in
    ap symbols_from apart
    ∙ symbols_from-word_blank (codes "next") 32 (decimal next ++ 10 ∷ more) (refl, refl) refl
    ∙ ap (λ (ss : List Symbol). Word (codes "next") ∷ ss) (symbols_from-decimal_blank next 10 more small refl ∙ ap (λ (ss : List Symbol). Numeral next ∷ ss) behind)

pub head_symbols : (version : MapVersion) (next : ℕ) (more : List ℕ) → symbols_from (head_line version ++ more) ≡ Word (codes "gmap") ∷ Numeral (number_of (written_in version next)) ∷ symbols_from more
head_symbols versions.One next more =
    symbols_from-word_blank (codes "gmap") 32 (codes "1" ++ 10 ∷ more) (refl, refl) refl
    ∙ ap (λ (ss : List Symbol). Word (codes "gmap") ∷ ss) (symbols_from-digits (codes "1") (10 ∷ more) (refl, refl) refl ∙ ap (λ (ss : List Symbol). Numeral 1 ∷ ss) (symbols_from-blank 10 more refl))
head_symbols versions.Two next more =
    symbols_from-word_blank (codes "gmap") 32 (codes "2" ++ 10 ∷ more) (refl, refl) refl
    ∙ ap (λ (ss : List Symbol). Word (codes "gmap") ∷ ss) (symbols_from-digits (codes "2") (10 ∷ more) (refl, refl) refl ∙ ap (λ (ss : List Symbol). Numeral 2 ∷ ss) (symbols_from-blank 10 more refl))
