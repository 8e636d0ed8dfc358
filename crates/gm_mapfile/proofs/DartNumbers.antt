-- The numbers of darts tell the darts: how many each of its parts has, and what they say.
use Rattle.std.proofs.Common.{◌≡◌, ◌≢◌, ℕ, suc, ℤ, pos, List, [], ◌∷◌, ◌++◌, length, map, refl, sym, ap, ap₂, ◌∙◌, append_assoc}
use Rattle.std.proofs.lemmas.List.{length-map}
use Rattle.std.specs.List.{flat_map, AllByRecursion}
use Rattle.gm_model.specs.declared.schema.Embed.{Embed}
use Rattle.gm_model.specs.declared.value.Kind.{Kind}
use Rattle.gm_model.specs.declared.value.Kind.TheVariants as kinds
use Rattle.gm_model.specs.declared.value.Value.{Value}
use Rattle.gm_model.specs.declared.value.Value.TheVariants as values
use Rattle.gm_model.specs.Expressions.{IsMade, components}
use Rattle.gm_model.specs.Values.{kind_of}
use Rattle.gm_text.specs.ValueText.{Signed, integer}
use Rattle.gm_mapfile.specs.MapText.{DartForm, DartRow, width, IsShaped, AreMade, IsRow}
use Rattle.gm_mapfile.proofs.Zipped.{AreWide, AreRows}
use Rattle.gm_mapfile.proofs.MapLed.{form_numbers, all_form_numbers}

-- two lists that begin alike far
pub cut : {A : Type 0} (xs ys rest others : List A) → length xs ≡ length ys → xs ++ rest ≡ ys ++ others → (xs ≡ ys) × (rest ≡ others)
cut [] [] rest others long same = (refl, same)
cut [] (y ∷ ys) rest others long same = absurd cc
cut (x ∷ xs) [] rest others long same = absurd cc
cut {A = A} (x ∷ xs) (y ∷ ys) rest others long same =
    let head : x ≡ y = cc same in
    let tail : xs ++ rest ≡ ys ++ others = cc same in
    let short : length xs ≡ length ys = cc long in
    let behind = cut xs ys rest others short tail in
    (ap₂ (λ (a : A) (as' : List A). a ∷ as') head behind.0, behind.1)

pub same_names : (xs ys : List ℕ) → map pos xs ≡ map pos ys → xs ≡ ys
same_names [] [] same = refl
same_names [] (y ∷ ys) same = absurd cc
same_names (x ∷ xs) [] same = absurd cc
same_names (x ∷ xs) (y ∷ ys) same =
    let here : pos x ≡ pos y = cc same in
    let head : x ≡ y = cc here in
    let tail : map pos xs ≡ map pos ys = cc same in
    ap₂ (λ (a : ℕ) (as' : List ℕ). a ∷ as') head (same_names xs ys tail)

-- ---- values

pub wide_components : (v : Value) → length (components v) ≡ width (kind_of v)
wide_components (values.Int x) = refl
wide_components (values.Bool b) = refl
wide_components (values.Vec2 x y) = refl
wide_components (values.Vec3 x y z) = refl
wide_components (values.Rgb r g b) = refl

-- a value is told by its kind and its components
pub one_value : (v w : Value) → kind_of v ≡ kind_of w → kind_of v ≢ kinds.Bool → components v ≡ components w → v ≡ w
one_value (values.Int x) (values.Int x') same other parts = ap values.Int (cc parts)
one_value (values.Vec2 x y) (values.Vec2 x' y') same other parts = ap₂ values.Vec2 (cc parts) (cc parts)
one_value (values.Vec3 x y z) (values.Vec3 x' y' z') same other parts =
    let first : x ≡ x' = cc parts in
    let second : y ≡ y' = cc parts in
    let third : z ≡ z' = cc parts in
    λ t. values.Vec3 (first t) (second t) (third t)
one_value (values.Rgb r g b) (values.Rgb r' g' b') same other parts =
    let first : pos r ≡ pos r' = cc parts in
    let second : pos g ≡ pos g' = cc parts in
    let third : pos b ≡ pos b' = cc parts in
    let red : r ≡ r' = cc first in
    let green : g ≡ g' = cc second in
    let blue : b ≡ b' = cc third in
    λ t. values.Rgb (red t) (green t) (blue t)
one_value (values.Bool b) w same other parts = absurd (other refl)
one_value v w same other parts = absurd cc

pub one_made : (kind : Kind) (parts others : List ℤ) (v w : Value) → IsMade kind parts v → IsMade kind others w → parts ≡ others → v ≡ w
one_made kind parts others v w made made' same =
    one_value v w (made.is_value.kind_is ∙ sym made'.is_value.kind_is) (λ e. made.numbers (sym made.is_value.kind_is ∙ e)) (made.parts_are ∙ same ∙ sym made'.parts_are)

-- what is written alike has the same values
same_values : (embeds : List Embed) (written others : List (List Signed)) (vs ws : List Value) (rest more : List ℤ) → AreWide embeds written → AreWide embeds others → AreMade embeds written vs → AreMade embeds others ws
    → flat_map (map integer) written ++ rest ≡ flat_map (map integer) others ++ more → (vs ≡ ws) × (rest ≡ more)
same_values [] [] [] [] [] rest more wide wide' made made' same = (refl, same)
same_values (embed ∷ embeds) (xs ∷ written) (ys ∷ others) (v ∷ vs) (w ∷ ws) rest more wide wide' made made' same =
    let behind = flat_map (map integer) written ++ rest in
    let behind' = flat_map (map integer) others ++ more in
    let long : length (map integer xs) ≡ length (map integer ys) = length-map xs integer ∙ wide.0 ∙ sym wide'.0 ∙ sym (length-map ys integer) in
    let parts = cut (map integer xs) (map integer ys) behind behind' long (sym (append_assoc (map integer xs) (flat_map (map integer) written) rest) ∙ same ∙ append_assoc (map integer ys) (flat_map (map integer) others) more) in
    let later = same_values embeds written others vs ws rest more wide.1 wide'.1 made.1 made'.1 parts.1 in
    (ap₂ (λ (a : Value) (as' : List Value). a ∷ as') (one_made embed.kind (map integer xs) (map integer ys) v w made.0 made'.0 parts.0) later.0, later.1)
same_values [] [] [] [] (w ∷ ws) rest more wide wide' made made' same = absurd made'
same_values [] [] [] (v ∷ vs) ws rest more wide wide' made made' same = absurd made
same_values [] [] (ys ∷ others) vs ws rest more wide wide' made made' same = absurd wide'
same_values [] (xs ∷ written) others vs ws rest more wide wide' made made' same = absurd wide
same_values (embed ∷ embeds) [] others vs ws rest more wide wide' made made' same = absurd wide
same_values (embed ∷ embeds) (xs ∷ written) [] vs ws rest more wide wide' made made' same = absurd wide'
same_values (embed ∷ embeds) (xs ∷ written) (ys ∷ others) [] ws rest more wide wide' made made' same = absurd made
same_values (embed ∷ embeds) (xs ∷ written) (ys ∷ others) (v ∷ vs) [] rest more wide wide' made made' same = absurd made'

-- ---- darts

module _ (n : ℕ) (embeds : List Embed) where
  same_dart : (form other : DartForm) (dart second : DartRow) (rest more : List ℤ) → IsShaped n embeds form → IsShaped n embeds other → IsRow embeds form dart → IsRow embeds other second
      → form_numbers form ++ rest ≡ form_numbers other ++ more → (dart ≡ second) × (rest ≡ more)
  same_dart form other dart second rest more shaped shaped' row row' same =
      let line = form.name ∷ form.alphas in
      let line' = other.name ∷ other.alphas in
      let long : length (map pos line) ≡ length (map pos line') = length-map line pos ∙ ap suc (shaped.0 ∙ sym shaped'.0) ∙ sym (length-map line' pos) in
      let values = flat_map (map integer) form.values in
      let values' = flat_map (map integer) other.values in
      let parts = cut (map pos line) (map pos line') (values ++ rest) (values' ++ more) long (sym (append_assoc (map pos line) values rest) ∙ same ∙ append_assoc (map pos line') values' more) in
      let numbers : line ≡ line' = same_names line line' parts.0 in
      let name : dart.name ≡ second.name = row.name_is ∙ cc numbers ∙ sym row'.name_is in
      let alphas : dart.alphas ≡ second.alphas = row.alphas_are ∙ cc numbers ∙ sym row'.alphas_are in
      let later = same_values embeds form.values other.values dart.values second.values rest more shaped.1 shaped'.1 row.made row'.made parts.1 in
      let same_row : dart ≡ second = λ t. let row : DartRow = record { name = name t; alphas = alphas t; values = later.0 t } in row in
      (same_row, later.1)

  pub same_darts : (forms others : List DartForm) (darts seconds : List DartRow) → AllByRecursion (IsShaped n embeds) forms → AllByRecursion (IsShaped n embeds) others → AreRows embeds forms darts → AreRows embeds others seconds
      → all_form_numbers forms ≡ all_form_numbers others → darts ≡ seconds
  same_darts [] [] [] [] shaped shaped' rows rows' same = refl
  same_darts (form ∷ forms) (other ∷ others) (dart ∷ darts) (second ∷ seconds) shaped shaped' rows rows' same =
      let first = same_dart form other dart second (all_form_numbers forms) (all_form_numbers others) shaped.0 shaped'.0 rows.0 rows'.0 same in
      ap₂ (λ (a : DartRow) (as' : List DartRow). a ∷ as') first.0 (same_darts forms others darts seconds shaped.1 shaped'.1 rows.1 rows'.1 first.1)
  same_darts [] [] [] (second ∷ seconds) shaped shaped' rows rows' same = absurd rows'
  same_darts [] [] (dart ∷ darts) seconds shaped shaped' rows rows' same = absurd rows
  same_darts [] (other ∷ others) darts seconds shaped shaped' rows rows' same = absurd cc
  same_darts (form ∷ forms) [] darts seconds shaped shaped' rows rows' same = absurd cc
  same_darts (form ∷ forms) (other ∷ others) [] seconds shaped shaped' rows rows' same = absurd rows
  same_darts (form ∷ forms) (other ∷ others) (dart ∷ darts) [] shaped shaped' rows rows' same = absurd rows'
