-- What parts that pass nothing say of a map's darts: small names, and numbers in the range of their values.
use Rattle.std.proofs.Common.{◌≡◌, ℕ, zero, suc, ◌<◌, ◌≤◌, ◌^◌, Bool, true, false, cond, ℤ, pos, FitsSigned, w64, List, [], ◌∷◌, map, Some, None, refl, arith, codes}
use Rattle.std.specs.Prelude.{IsTrue, nat_lt, nat_le, int_le}
use Rattle.std.specs.List.{AllByRecursion}
use Rattle.std.specs.Option.{option_map}
use Rattle.std.proofs.lemmas.Bool.Decides.{nat_tests}
use Rattle.std.proofs.lemmas.Bool.{and_parts}
use Rattle.gm_model.specs.declared.limit.LimitKind.TheVariants as limits
use Rattle.gm_model.specs.declared.schema.Embed.{Embed}
use Rattle.gm_model.specs.declared.value.Kind.{Kind}
use Rattle.gm_model.specs.declared.value.Kind.TheVariants as kinds
use Rattle.gm_model.specs.declared.value.Value.{Value}
use Rattle.gm_model.specs.declared.value.Value.TheVariants as values
use Rattle.gm_model.specs.Expressions.{components}
use Rattle.gm_model.specs.Limits.{most_names}
use Rattle.gm_model.specs.Reading.{Part, IsWithin, sign}
use Rattle.gm_model.specs.Symbols.{Numeral}
use Rattle.gm_model.specs.Values.{kind_of, IsInValueRange}
use Rattle.gm_text.specs.SchemaText.{LimitOf}
use Rattle.gm_text.specs.ValueText.{Signed, integer, greatest, is_channel, spell_signed, signed}
use Rattle.gm_mapfile.specs.MapText.{DartForm, Role, Fixed, DartName, passed_of, is_colour, size_role, spell_components, spell_value, spell_values, spell_darts, IsSentence}
use Rattle.gm_mapfile.proofs.Zipped.{spell_names}

abbrev pub AreWithin : List (Part Role) → Type 0
AreWithin parts = IsWithin IsSentence passed_of parts

-- ---- one number

pub name_within : (n : ℕ) → passed_of DartName (Numeral n) ≡ None → n < most_names
name_within n e = go (nat_le most_names n) refl e
  where
    go : (b : Bool) → nat_le most_names n ≡ b → option_map LimitOf (cond b (Some limits.DartName) None) ≡ None → n < most_names
    go true f e = absurd cc
    go false f e = grind (arith, nat_tests, f)

-- a number of a value, of a colour or not
pub record IsGoodNumber (colour : Bool) (x : ℤ) : Type 0 where
  pub fits : FitsSigned w64 x
  pub channel : IsTrue colour → IsTrue (is_channel x)

negative_fits : (n : ℕ) → n ≤ 2 ^ 63 → FitsSigned w64 (signed true n)
negative_fits zero small = record { sfits = omega arith }
negative_fits (suc n) small = record { sfits = omega (arith, small) }

signed_fits : (minus : Bool) (n : ℕ) → n ≤ greatest minus → FitsSigned w64 (signed minus n)
signed_fits true n small = negative_fits n small
signed_fits false n small = record { sfits = omega (arith, small) }

size_within : (colour minus : Bool) (n : ℕ) → passed_of (size_role colour minus) (Numeral n) ≡ None → IsGoodNumber colour (signed minus n)
size_within false minus n e = go (nat_lt (greatest minus) n) refl e
  where
    go : (b : Bool) → nat_lt (greatest minus) n ≡ b → option_map LimitOf (cond b (Some limits.Integer) None) ≡ None → IsGoodNumber false (signed minus n)
    go true f e = absurd cc
    go false f e = let small : n ≤ greatest minus = grind (arith, nat_tests, f) in record { fits = signed_fits minus n small; channel = λ no_way. absurd cc }
size_within true minus n e = go (nat_lt (greatest minus) n) (is_channel (signed minus n)) refl refl e
  where
    go : (b c : Bool) → nat_lt (greatest minus) n ≡ b → is_channel (signed minus n) ≡ c → option_map LimitOf (cond b (Some limits.Integer) (cond c None (Some limits.Channel))) ≡ None → IsGoodNumber true (signed minus n)
    go true c f g e = absurd cc
    go false true f g e = let small : n ≤ greatest minus = grind (arith, nat_tests, f) in record { fits = signed_fits minus n small; channel = λ yes_way. g }
    go false false f g e = absurd cc

-- ---- parts

pub names_within : (names : List ℕ) (rest : List (Part Role)) → AreWithin (spell_names names rest) → AllByRecursion (λ a. a < most_names) names × AreWithin rest
names_within [] rest within = (tt, within)
names_within (name ∷ names) rest within = let others = names_within names rest within.1 in ((name_within name within.0, others.0), others.1)

signed_within : (colour minus : Bool) (size : ℕ) (rest : List (Part Role)) → AreWithin (spell_signed Fixed (size_role colour) (record { minus = minus; size = size }) rest) → IsGoodNumber colour (signed minus size) × AreWithin rest
signed_within colour true size rest within = (size_within colour true size within.1.0, within.1.1)
signed_within colour false size rest within = (size_within colour false size within.0, within.1)

components_within : (colour : Bool) (xs : List Signed) (rest : List (Part Role)) → AreWithin (spell_components colour xs rest) → AllByRecursion (IsGoodNumber colour) (map integer xs) × AreWithin rest
components_within colour [] rest within = (tt, within)
components_within colour (x ∷ xs) rest within =
    let first = signed_within colour x.minus x.size (spell_components colour xs rest) within in
    let others = components_within colour xs rest first.1 in
    ((first.0, others.0), others.1)

bracketed_within : (colour : Bool) (xs : List Signed) (rest : List (Part Role)) → AreWithin (sign Fixed (codes "(") ∷ spell_components colour xs (sign Fixed (codes ")") ∷ rest)) → AllByRecursion (IsGoodNumber colour) (map integer xs) × AreWithin rest
bracketed_within colour xs rest within = let inner = components_within colour xs (sign Fixed (codes ")") ∷ rest) within.1 in (inner.0, inner.1.1)

value_within : (kind : Kind) (xs : List Signed) (rest : List (Part Role)) → AreWithin (spell_value kind xs rest) → AllByRecursion (IsGoodNumber (is_colour kind)) (map integer xs) × AreWithin rest
value_within kinds.Int xs rest within = components_within false xs rest within
value_within kinds.Bool xs rest within = bracketed_within false xs rest within
value_within kinds.Vec2 xs rest within = bracketed_within false xs rest within
value_within kinds.Vec3 xs rest within = bracketed_within false xs rest within
value_within kinds.Rgb xs rest within = bracketed_within true xs rest within

abbrev pub AreInRange : List Embed → List (List Signed) → Type 0
AreInRange (embed ∷ embeds) (xs ∷ values) = AllByRecursion (IsGoodNumber (is_colour embed.kind)) (map integer xs) × AreInRange embeds values
AreInRange _ _ = Unit {0}

values_within : (embeds : List Embed) (values : List (List Signed)) (rest : List (Part Role)) → AreWithin (spell_values embeds values rest) → AreInRange embeds values × AreWithin rest
values_within [] [] rest within = (tt, within)
values_within [] (xs ∷ values) rest within = (tt, within)
values_within (embed ∷ embeds) [] rest within = (tt, within)
values_within (embed ∷ embeds) (xs ∷ values) rest within =
    let first = value_within embed.kind xs (spell_values embeds values rest) within in
    let others = values_within embeds values rest first.1 in
    ((first.0, others.0), others.1)

-- a dart's names pass nothing, and neither do the numbers of its values
pub record IsGoodForm (embeds : List Embed) (dart : DartForm) : Type 0 where
  pub name : dart.name < most_names
  pub alphas : AllByRecursion (λ a. a < most_names) dart.alphas
  pub ranges : AreInRange embeds dart.values

pub darts_within : (embeds : List Embed) (darts : List DartForm) (rest : List (Part Role)) → AreWithin (spell_darts embeds darts rest) → AllByRecursion (IsGoodForm embeds) darts × AreWithin rest
darts_within embeds [] rest within = (tt, within)
darts_within embeds (dart ∷ darts) rest within =
    let behind = spell_darts embeds darts rest in
    let alphas = names_within dart.alphas (spell_values embeds dart.values behind) within.1 in
    let ranges = values_within embeds dart.values behind alphas.1 in
    let others = darts_within embeds darts rest ranges.1 in
    ((record { name = name_within dart.name within.0; alphas = alphas.0; ranges = ranges.0 }, others.0), others.1)

-- ---- values

pub channel_low : (n : ℕ) → IsTrue (is_channel (pos n)) → n < 256
channel_low n is = grind (arith, nat_tests, and_parts (int_le (pos 0) (pos n)) (int_le (pos n) (pos 255)) is)

-- numbers in range are those of a value in range
pub value_in_range : (v : Value) → AllByRecursion (IsGoodNumber (is_colour (kind_of v))) (components v) → IsInValueRange v
value_in_range (values.Int x) all = all.0.fits
value_in_range (values.Bool b) all = tt
value_in_range (values.Vec2 x y) all = (all.0.fits, all.1.0.fits)
value_in_range (values.Vec3 x y z) all = (all.0.fits, all.1.0.fits, all.1.1.0.fits)
value_in_range (values.Rgb r g b) all = (channel_low r (all.0.channel refl), channel_low g (all.1.0.channel refl), channel_low b (all.1.1.0.channel refl))
