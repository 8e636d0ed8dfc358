-- The form of a printed map is good, passes nothing, and means the map.
use Rattle.std.proofs.Common.{◌≡◌, ◌≢◌, ℕ, zero, suc, ◌-◌, ◌^◌, ◌<◌, ◌≤◌, ltb, leb, Bool, true, false, ℤ, pos, negsuc, List, [], ◌∷◌, length, map, slice_get, Some, None, refl, sym, ap, subst, ◌∙◌, arith}
use Rattle.std.specs.List.{AllByRecursion}
use lib.Signed.{mag}
use Rattle.std.proofs.lemmas.Bool.{le-ltb, lt-leb, le-leb}
use Rattle.std.proofs.lemmas.List.Elements.{recursion_from_All}
use Rattle.gm_model.specs.declared.schema.Embed.{Embed}
use Rattle.gm_model.specs.declared.schema.Schema.{Schema}
use Rattle.gm_model.specs.declared.value.Kind.{Kind}
use Rattle.gm_model.specs.declared.value.Kind.TheVariants as kinds
use Rattle.gm_model.specs.declared.value.Value.{Value}
use Rattle.gm_model.specs.declared.value.Value.TheVariants as values
use Rattle.gm_model.specs.Expressions.{components}
use Rattle.gm_model.specs.Limits.{most_darts, most_names}
use Rattle.gm_model.specs.Maps.{IsSchema}
use Rattle.gm_model.specs.Reading.{Part, IsWithin, the_end}
use Rattle.gm_model.specs.Symbols.{Numeral}
use Rattle.gm_model.specs.Values.{kind_of, IsInValueRange}
use Rattle.gm_text.specs.ValueText.{integer, greatest, spell_signed}
use Rattle.gm_arena.specs.inner.Lawful.{AreGoodValues}
use Rattle.gm_mapfile.specs.MapText.{Role, Fixed, NextName, Count, DartName, Size, Channel, size_role, passed_of, width, spell_value, spell_values, spell_darts, spell_listing, spell_next, IsShaped, IsSentence, DartRow, AreMade}
use Rattle.gm_mapfile.proofs.Zipped.{spell_names, AreWide, AreRows}
use Rattle.gm_mapfile.specs.declared.version.MapVersion.{MapVersion}
use Rattle.gm_mapfile.specs.declared.version.MapVersion.TheVariants as versions
use Rattle.gm_mapfile.proofs.Spelled.{signed_of, parts_of, dart_form, written_in, AreFitting, IsFitting}

-- ---- good values fit their embeddings

pub fitting : (embeds : List Embed) (values : List Value) → map kind_of values ≡ map (λ (e : Embed). e.kind) embeds → AllByRecursion IsInValueRange values → ((e : ℕ) (embed : Embed) → slice_get embeds e ≡ Some embed → embed.kind ≢ kinds.Bool) → AreFitting embeds values
fitting [] [] same ranges numeric = tt
fitting [] (value ∷ values) same ranges numeric = absurd cc
fitting (embed ∷ embeds) [] same ranges numeric = absurd cc
fitting (embed ∷ embeds) (value ∷ values) same ranges numeric =
    let here : kind_of value ≡ embed.kind = cc same in
    let behind : map kind_of values ≡ map (λ (e : Embed). e.kind) embeds = cc same in
    (record { kind_is = here; range = ranges.0 }, numeric zero embed refl, fitting embeds values behind ranges.1 (λ e. numeric (suc e)))

pub good_fitting : (schema : Schema) (values : List Value) → IsSchema schema → AreGoodValues schema values → AreFitting schema.embeds values
good_fitting schema values is good = fitting schema.embeds values good.kinds (recursion_from_All IsInValueRange values good.ranges) is.kinds

-- ---- no limit is passed

abbrev AreWithin : List (Part Role) → Type 0
AreWithin parts = IsWithin IsSentence passed_of parts

small_passes : (n : ℕ) → n < most_names → passed_of DartName (Numeral n) ≡ None
small_passes n small = let below : leb 16777216 n ≡ false = lt-leb 16777216 n small in rw below refl

names_pass : (names : List ℕ) (rest : List (Part Role)) → AllByRecursion (λ a. a < most_names) names → AreWithin rest → AreWithin (spell_names names rest)
names_pass [] rest small within = within
names_pass (name ∷ names) rest small within = (small_passes name small.0, names_pass names rest small.1 within)

size_passes : (minus : Bool) (n : ℕ) (most : ℕ) → most ≡ greatest minus → n ≤ most → passed_of (Size minus) (Numeral n) ≡ None
size_passes minus n most is small = let below : ltb (greatest minus) n ≡ false = le-ltb (greatest minus) n (omega (arith, is)) in rw below refl

channel_passes : (n : ℕ) → n < 256 → passed_of (Channel false) (Numeral n) ≡ None
channel_passes n small =
    let below : ltb (greatest false) n ≡ false = le-ltb (greatest false) n (omega arith) in
    let least : leb 0 n ≡ true = le-leb 0 n (omega arith) in
    let byte : leb n 255 ≡ true = le-leb n 255 (omega arith) in
    rw (below, least, byte) refl

number_passes : (z : ℤ) (rest : List (Part Role)) → mag z < 2 ^ 63 → AreWithin rest → AreWithin (spell_signed Fixed (size_role false) (signed_of z) rest)
number_passes (pos n) rest small within = (size_passes false n (2 ^ 63 - 1) refl (omega arith), within)
number_passes (negsuc n) rest small within = (refl, (size_passes true (suc n) (2 ^ 63) refl (omega arith), within))

value_passes : (v : Value) (rest : List (Part Role)) → IsInValueRange v → AreWithin rest → AreWithin (spell_value (kind_of v) (parts_of v) rest)
value_passes (values.Int x) rest range within = number_passes x rest range.sfits within
value_passes (values.Bool b) rest range within = (refl, (refl, within))
value_passes (values.Vec2 x y) rest (x_fits, y_fits) within = (refl, number_passes x _ x_fits.sfits (number_passes y _ y_fits.sfits (refl, within)))
value_passes (values.Vec3 x y z) rest (x_fits, y_fits, z_fits) within = (refl, number_passes x _ x_fits.sfits (number_passes y _ y_fits.sfits (number_passes z _ z_fits.sfits (refl, within))))
value_passes (values.Rgb r g b) rest (r_fits, g_fits, b_fits) within = (refl, (channel_passes r r_fits, (channel_passes g g_fits, (channel_passes b b_fits, (refl, within)))))

values_pass : (embeds : List Embed) (values : List Value) (rest : List (Part Role)) → AreFitting embeds values → AreWithin rest → AreWithin (spell_values embeds (map parts_of values) rest)
values_pass [] [] rest fit within = within
values_pass [] (value ∷ values) rest fit within = absurd fit
values_pass (embed ∷ embeds) [] rest fit within = absurd fit
values_pass (embed ∷ embeds) (value ∷ values) rest (is, numeric, others) within =
    subst (λ (k : Kind). AreWithin (spell_value k (parts_of value) (spell_values embeds (map parts_of values) rest))) is.kind_is
    (value_passes value (spell_values embeds (map parts_of values) rest) is.range (values_pass embeds values rest others within))

darts_pass : (embeds : List Embed) (darts : List DartRow) (rest : List (Part Role)) → AllByRecursion (IsFitting embeds) darts → AreWithin rest → AreWithin (spell_darts embeds (map dart_form darts) rest)
darts_pass embeds [] rest fit within = within
darts_pass embeds (dart ∷ darts) rest fit within =
    let behind = darts_pass embeds darts rest fit.1 within in
    let values = values_pass embeds dart.values (spell_darts embeds (map dart_form darts) rest) fit.0.1 behind in
    (small_passes dart.name fit.0.0.0, names_pass dart.alphas _ fit.0.0.1 values)

pub listing_passes : (embeds : List Embed) (darts : List DartRow) → length (map dart_form darts) ≤ most_darts → AllByRecursion (IsFitting embeds) darts → AreWithin (spell_listing embeds (map dart_form darts))
listing_passes embeds darts few fit =
    let count : ltb 1048576 (length (map dart_form darts)) ≡ false = le-ltb 1048576 (length (map dart_form darts)) few in
    let counted : passed_of Count (Numeral (length (map dart_form darts))) ≡ None = rw count refl in
    (refl, (counted, darts_pass embeds darts (the_end Fixed ∷ []) fit (refl, tt)))

pub next_passes : (version : MapVersion) (next : ℕ) (rest : List (Part Role)) → next ≤ most_names → AreWithin rest → AreWithin (spell_next (written_in version next) rest)
next_passes versions.One next rest small within = within
next_passes versions.Two next rest small within =
    let below : ltb 16777216 next ≡ false = le-ltb 16777216 next small in
    let free : passed_of NextName (Numeral next) ≡ None = rw below refl in
    (refl, (free, within))

-- ---- it is good

parts_long : (v : Value) → length (parts_of v) ≡ width (kind_of v)
parts_long (values.Int x) = refl
parts_long (values.Bool b) = refl
parts_long (values.Vec2 x y) = refl
parts_long (values.Vec3 x y z) = refl
parts_long (values.Rgb r g b) = refl

values_wide : (embeds : List Embed) (values : List Value) → AreFitting embeds values → AreWide embeds (map parts_of values)
values_wide [] [] fit = tt
values_wide [] (value ∷ values) fit = absurd fit
values_wide (embed ∷ embeds) [] fit = absurd fit
values_wide (embed ∷ embeds) (value ∷ values) (is, numeric, others) = (parts_long value ∙ ap width is.kind_is, values_wide embeds values others)

pub darts_shaped : (n : ℕ) (embeds : List Embed) (darts : List DartRow) → AllByRecursion (λ (dart : DartRow). length dart.alphas ≡ suc n) darts → AllByRecursion (IsFitting embeds) darts → AllByRecursion (IsShaped n embeds) (map dart_form darts)
darts_shaped n embeds [] long fit = tt
darts_shaped n embeds (dart ∷ darts) long fit = ((omega (arith, long.0), values_wide embeds dart.values fit.0.1), darts_shaped n embeds darts long.1 fit.1)

-- ---- it means the darts

pub integer_of : (z : ℤ) → integer (signed_of z) ≡ z
integer_of (pos n) = refl
integer_of (negsuc n) = refl

integers : (zs : List ℤ) → map integer (map signed_of zs) ≡ zs
integers [] = refl
integers (z ∷ zs) = rw (integer_of z, integers zs) refl

values_made : (embeds : List Embed) (values : List Value) → AreFitting embeds values → AreMade embeds (map parts_of values) values
values_made [] [] fit = tt
values_made [] (value ∷ values) fit = absurd fit
values_made (embed ∷ embeds) [] fit = absurd fit
values_made (embed ∷ embeds) (value ∷ values) (is, numeric, others) = (record { numbers = numeric; is_value = is; parts_are = sym (integers (components value)) }, values_made embeds values others)

pub darts_meant : (embeds : List Embed) (darts : List DartRow) → AllByRecursion (IsFitting embeds) darts → AreRows embeds (map dart_form darts) darts
darts_meant embeds [] fit = tt
darts_meant embeds (dart ∷ darts) fit = (record { name_is = refl; alphas_are = refl; made = values_made embeds dart.values fit.0.1 }, darts_meant embeds darts fit.1)
