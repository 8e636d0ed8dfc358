-- Each dart as it is written is a row: its values can be made of the numbers that are written.
use Rattle.std.proofs.Common.{◌≡◌, ◌≢◌, ℕ, ℤ, pos, negsuc, List, [], ◌∷◌, length, map, refl, sym, ap, subst, ◌∙◌, arith}
use Rattle.std.specs.Prelude.{IsTrue}
use Rattle.std.specs.List.{AllByRecursion}
use Rattle.std.proofs.lemmas.List.{length-map}
use Rattle.gm_model.specs.declared.schema.Embed.{Embed}
use Rattle.gm_model.specs.declared.value.Kind.{Kind}
use Rattle.gm_model.specs.declared.value.Kind.TheVariants as kinds
use Rattle.gm_model.specs.declared.value.Value.{Value}
use Rattle.gm_model.specs.declared.value.Value.TheVariants as values
use Rattle.gm_model.specs.Expressions.{IsMade, components}
use Rattle.gm_model.specs.Values.{kind_of}
use Rattle.gm_text.specs.ValueText.{Signed, integer, is_channel}
use Rattle.gm_mapfile.specs.MapText.{DartForm, DartRow, width, is_colour, IsShaped, AreMade}
use Rattle.gm_mapfile.proofs.Zipped.{AreWide, AreRows}
use Rattle.gm_mapfile.proofs.MapRows.{HaveNumbers}
use Rattle.gm_mapfile.proofs.MapWithin.{IsGoodNumber, AreInRange, IsGoodForm, value_in_range}

made : (kind : Kind) (v : Value) (parts : List ℤ) → kind ≢ kinds.Bool → kind_of v ≡ kind → components v ≡ parts → AllByRecursion (IsGoodNumber (is_colour kind)) parts → IsMade kind parts v
made kind v parts numbers kind_is parts_are all = record {
  numbers = numbers;
  is_value = record {
    kind_is = kind_is;
    range = value_in_range v (subst (λ (k : Kind). AllByRecursion (IsGoodNumber (is_colour k)) (components v)) (sym kind_is) (subst (AllByRecursion (IsGoodNumber (is_colour kind))) (sym parts_are) all));
  };
  parts_are = parts_are;
}

-- a component of a colour isn't negative
channel_is : (x : ℤ) → IsTrue (is_channel x) → (n : ℕ) × (pos n ≡ x)
channel_is (pos n) is = (n, refl)
channel_is (negsuc n) is = absurd cc

colour_made : (r g b : ℤ) → AllByRecursion (IsGoodNumber (is_colour kinds.Rgb)) (r ∷ g ∷ b ∷ []) → (v : Value) × IsMade kinds.Rgb (r ∷ g ∷ b ∷ []) v
colour_made r g b all =
    let (red, red_is) = channel_is r (all.0.channel refl) in
    let (green, green_is) = channel_is g (all.1.0.channel refl) in
    let (blue, blue_is) = channel_is b (all.1.1.0.channel refl) in
    (values.Rgb red green blue, made kinds.Rgb (values.Rgb red green blue) (r ∷ g ∷ b ∷ []) (λ e. absurd cc) refl (λ i. red_is i ∷ green_is i ∷ blue_is i ∷ []) all)

of_one : (xs : List ℤ) → length xs ≡ 1 → (x : ℤ) × (xs ≡ x ∷ [])
of_one [] long = absurd cc
of_one (x ∷ []) long = (x, refl)
of_one (x ∷ y ∷ xs) long = absurd (omega (arith, long))

of_two : (xs : List ℤ) → length xs ≡ 2 → (x : ℤ) × (y : ℤ) × (xs ≡ x ∷ y ∷ [])
of_two [] long = absurd cc
of_two (x ∷ xs) long = let (y, is) = of_one xs (omega (arith, long)) in (x, y, ap (λ (ys : List ℤ). x ∷ ys) is)

of_three : (xs : List ℤ) → length xs ≡ 3 → (x : ℤ) × (y : ℤ) × (z : ℤ) × (xs ≡ x ∷ y ∷ z ∷ [])
of_three [] long = absurd cc
of_three (x ∷ xs) long = let (y, z, is) = of_two xs (omega (arith, long)) in (x, y, z, ap (λ (ys : List ℤ). x ∷ ys) is)

value_made : (kind : Kind) (parts : List ℤ) → kind ≢ kinds.Bool → length parts ≡ width kind → AllByRecursion (IsGoodNumber (is_colour kind)) parts → (v : Value) × IsMade kind parts v
value_made kinds.Int parts numbers long all = let (x, is) = of_one parts long in (values.Int x, made kinds.Int (values.Int x) parts numbers refl (sym is) all)
value_made kinds.Bool parts numbers long all = absurd (numbers refl)
value_made kinds.Vec2 parts numbers long all = let (x, y, is) = of_two parts long in (values.Vec2 x y, made kinds.Vec2 (values.Vec2 x y) parts numbers refl (sym is) all)
value_made kinds.Vec3 parts numbers long all = let (x, y, z, is) = of_three parts long in (values.Vec3 x y z, made kinds.Vec3 (values.Vec3 x y z) parts numbers refl (sym is) all)
value_made kinds.Rgb parts numbers long all =
    let (r, g, b, is) = of_three parts long in
    let (v, made_so) = colour_made r g b (subst (AllByRecursion (IsGoodNumber (is_colour kinds.Rgb))) is all) in
    (v, subst (λ (ps : List ℤ). IsMade kinds.Rgb ps v) (sym is) made_so)

values_made : (embeds : List Embed) (written : List (List Signed)) → HaveNumbers embeds → AreWide embeds written → AreInRange embeds written → (vs : List Value) × AreMade embeds written vs
values_made [] [] numbers wide ranges = ([], tt)
values_made [] (xs ∷ written) numbers wide ranges = absurd wide
values_made (embed ∷ embeds) [] numbers wide ranges = absurd wide
values_made (embed ∷ embeds) (xs ∷ written) numbers wide ranges =
    let (v, first) = value_made embed.kind (map integer xs) numbers.0 (length-map xs integer ∙ wide.0) ranges.0 in
    let (vs, others) = values_made embeds written numbers.1 wide.1 ranges.1 in
    (v ∷ vs, (first, others))

pub rows_made : (n : ℕ) (embeds : List Embed) (forms : List DartForm) → HaveNumbers embeds → AllByRecursion (IsShaped n embeds) forms → AllByRecursion (IsGoodForm embeds) forms → (darts : List DartRow) × AreRows embeds forms darts
rows_made n embeds [] numbers shaped good = ([], tt)
rows_made n embeds (form ∷ forms) numbers shaped good =
    let (vs, are) = values_made embeds form.values numbers shaped.0.1 good.0.ranges in
    let (darts, rows) = rows_made n embeds forms numbers shaped.1 good.1 in
    (record { name = form.name; alphas = form.alphas; values = vs } ∷ darts, (record { name_is = refl; alphas_are = refl; made = are }, rows))
