-- Which expressions have a kind, and which kinds a rule's expressions must have.
use Rattle.std.specs.Prelude.{◌≡◌, ℕ, ◌≤◌, ◌<◌, List, length, map, Option, Some, None, slice_get, IsTrue}
use Rattle.std.specs.List.{AllByRecursion, AllZip}
use Rattle.std.specs.Option.{option_map, option_and_then}
use Rattle.gm_model.specs.declared.expr.BinOp.{BinOp}
use Rattle.gm_model.specs.declared.expr.BinOp.TheVariants as ops
use Rattle.gm_model.specs.declared.expr.DartTerm.{DartTerm}
use Rattle.gm_model.specs.declared.expr.UnOp.{UnOp}
use Rattle.gm_model.specs.declared.expr.UnOp.TheVariants as unary
use Rattle.gm_model.specs.declared.rule.Param.{Param}
use Rattle.gm_model.specs.declared.rule.Side.TheVariants.{Left}
use Rattle.gm_model.specs.declared.schema.Embed.{Embed}
use Rattle.gm_model.specs.declared.schema.Schema.{Schema}
use Rattle.gm_model.specs.declared.value.Kind.{Kind}
use Rattle.gm_model.specs.declared.value.Kind.TheVariants.{Int, Bool, Vec2, Vec3, Rgb}
use Rattle.gm_model.specs.declared.value.Value.{Value}
use Rattle.gm_model.specs.declared.word.Mask.{Mask}
use Rattle.gm_model.specs.Labels.{has}
use Rattle.gm_model.specs.Maps.{IsEmbedAt}
use Rattle.gm_model.specs.Rules.{Rule, Assigns, has_word}
use Rattle.gm_model.specs.Values.{IsValueOf}
use Rattle.gm_model.specs.Trees.{Tree, Number, Truth, Param as Parameter, Field, Same, Count, Sum, Least, Greatest, Unary, Binary, If, MakeVec2, MakeVec3, MakeRgb}

-- ---- the table of kinds

-- numbers, and vectors of numbers: what can be added, negated and divided by a number
abbrev pub numeric : Kind → Option Kind
numeric Int = Some Int
numeric Vec2 = Some Vec2
numeric Vec3 = Some Vec3
numeric _ = None

abbrev pub unary_kind : UnOp → Kind → Option Kind
unary_kind unary.Neg k = numeric k
unary_kind unary.Not Bool = Some Bool
unary_kind unary.X Vec2 = Some Int
unary_kind unary.X Vec3 = Some Int
unary_kind unary.Y Vec2 = Some Int
unary_kind unary.Y Vec3 = Some Int
unary_kind unary.Z Vec3 = Some Int
unary_kind unary.Red Rgb = Some Int
unary_kind unary.Green Rgb = Some Int
unary_kind unary.Blue Rgb = Some Int
unary_kind _ _ = None

-- the kind of both, where it is one
abbrev pub common : Kind → Kind → Option Kind
common Int Int = Some Int
common Bool Bool = Some Bool
common Vec2 Vec2 = Some Vec2
common Vec3 Vec3 = Some Vec3
common Rgb Rgb = Some Rgb
common _ _ = None

-- a number by anything numeric, and a vector by a number
abbrev pub product_kind : Kind → Kind → Option Kind
product_kind Int k = numeric k
product_kind Vec2 Int = Some Vec2
product_kind Vec3 Int = Some Vec3
product_kind _ _ = None

abbrev pub quotient_kind : Kind → Kind → Option Kind
quotient_kind k Int = numeric k
quotient_kind _ _ = None

-- k where both are numbers
abbrev pub of_ints : Kind → Kind → Kind → Option Kind
of_ints k Int Int = Some k
of_ints _ _ _ = None

abbrev pub of_bools : Kind → Kind → Option Kind
of_bools Bool Bool = Some Bool
of_bools _ _ = None

abbrev pub binary_kind : BinOp → Kind → Kind → Option Kind
binary_kind ops.Add i j = option_and_then numeric (common i j)
binary_kind ops.Sub i j = option_and_then numeric (common i j)
binary_kind ops.Mul i j = product_kind i j
binary_kind ops.Div i j = quotient_kind i j
binary_kind ops.Rem i j = of_ints Int i j
binary_kind ops.Eq i j = option_map (λ k. Bool) (common i j)
binary_kind ops.Ne i j = option_map (λ k. Bool) (common i j)
binary_kind ops.Lt i j = of_ints Bool i j
binary_kind ops.Le i j = of_ints Bool i j
binary_kind ops.Gt i j = of_ints Bool i j
binary_kind ops.Ge i j = of_ints Bool i j
binary_kind ops.And i j = of_bools i j
binary_kind ops.Or i j = of_bools i j

-- a sum of colours is a vector
abbrev pub sum_kind : Kind → Option Kind
sum_kind Rgb = Some Vec3
sum_kind k = numeric k

abbrev pub only_int : Kind → Option Kind
only_int Int = Some Int
only_int _ = None

abbrev pub choice_kind : Kind → Kind → Kind → Option Kind
choice_kind Bool i j = common i j
choice_kind _ _ _ = None

abbrev pub triple_kind : Kind → Kind → Kind → Kind → Option Kind
triple_kind k Int Int Int = Some k
triple_kind _ _ _ _ = None

-- f of both, of all three, where they are there
abbrev pub with_two : (Kind → Kind → Option Kind) → Option Kind → Option Kind → Option Kind
with_two f a b = option_and_then (λ i. option_and_then (f i) b) a

abbrev pub with_three : (Kind → Kind → Kind → Option Kind) → Option Kind → Option Kind → Option Kind → Option Kind
with_three f a b c = option_and_then (λ i. with_two (f i) b c) a

-- the kinds of the parameters
abbrev pub param_kinds : List Param → List Kind
param_kinds params = map (λ (param : Param). param.kind) params

-- over the embeddings, and the kinds of the parameters
module _ (embeds : List Embed) (params : List Kind) where
  abbrev pub embed_kind : ℕ → Option Kind
  embed_kind e = option_map (λ (embed : Embed). embed.kind) (slice_get embeds e)

  -- the kind of an expression, where the table gives one
  abbrev pub tree_kind : Tree → Option Kind
  tree_kind (Number n) = Some Int
  tree_kind (Truth b) = Some Bool
  tree_kind (Parameter k) = slice_get params k
  tree_kind (Field d e) = embed_kind e
  tree_kind (Same d d') = Some Bool
  tree_kind (Count o d) = Some Int
  tree_kind (Sum o d e) = option_and_then sum_kind (embed_kind e)
  tree_kind (Least o d e) = option_and_then only_int (embed_kind e)
  tree_kind (Greatest o d e) = option_and_then only_int (embed_kind e)
  tree_kind (Unary op a) = option_and_then (unary_kind op) (tree_kind a)
  tree_kind (Binary op a b) = with_two (binary_kind op) (tree_kind a) (tree_kind b)
  tree_kind (If c a b) = with_three choice_kind (tree_kind c) (tree_kind a) (tree_kind b)
  tree_kind (MakeVec2 a b) = with_two (of_ints Vec2) (tree_kind a) (tree_kind b)
  tree_kind (MakeVec3 a b c) = with_three (triple_kind Vec3) (tree_kind a) (tree_kind b) (tree_kind c)
  tree_kind (MakeRgb a b c) = with_three (triple_kind Rgb) (tree_kind a) (tree_kind b) (tree_kind c)

-- ---- in range

module _ (schema : Schema) (rule : Rule) where
  -- a dart term names a left node, and its labels are labels of the map
  pub record IsTermInRange (term : DartTerm) : Type 0 where
    pub node : IsTrue (has_word rule Left term.node)
    pub path : AllByRecursion (λ i. i ≤ schema.dim) term.path

  abbrev pub IsMaskInRange : Mask → Type 0
  IsMaskInRange mask = (i : ℕ) → IsTrue (has mask i) → i ≤ schema.dim

  abbrev pub IsEmbedInRange : ℕ → Type 0
  IsEmbedInRange e = e < length schema.embeds

  -- each number of the tree names what it stands for
  abbrev pub IsTreeInRange : Tree → Type 0
  IsTreeInRange (Number n) = Unit {0}
  IsTreeInRange (Truth b) = Unit {0}
  IsTreeInRange (Parameter k) = k < length rule.params
  IsTreeInRange (Field d e) = IsTermInRange d × IsEmbedInRange e
  IsTreeInRange (Same d d') = IsTermInRange d × IsTermInRange d'
  IsTreeInRange (Count o d) = IsMaskInRange o × IsTermInRange d
  IsTreeInRange (Sum o d e) = IsMaskInRange o × IsTermInRange d × IsEmbedInRange e
  IsTreeInRange (Least o d e) = IsMaskInRange o × IsTermInRange d × IsEmbedInRange e
  IsTreeInRange (Greatest o d e) = IsMaskInRange o × IsTermInRange d × IsEmbedInRange e
  IsTreeInRange (Unary op a) = IsTreeInRange a
  IsTreeInRange (Binary op a b) = IsTreeInRange a × IsTreeInRange b
  IsTreeInRange (If c a b) = IsTreeInRange c × IsTreeInRange a × IsTreeInRange b
  IsTreeInRange (MakeVec2 a b) = IsTreeInRange a × IsTreeInRange b
  IsTreeInRange (MakeVec3 a b c) = IsTreeInRange a × IsTreeInRange b × IsTreeInRange c
  IsTreeInRange (MakeRgb a b c) = IsTreeInRange a × IsTreeInRange b × IsTreeInRange c

  -- the tree is in range, and has the kind
  pub record HasKind (tree : Tree) (kind : Kind) : Type 0 where
    pub in_range : IsTreeInRange tree
    pub kind_is : tree_kind schema.embeds (param_kinds rule.params) tree ≡ Some kind

  -- each expression has the kind that its place needs
  pub record IsTyped : Type 0 where
    pub pre : (tree : Tree) → rule.pre ≡ Some tree → HasKind tree Bool
    pub sets : (x e : ℕ) (tree : Tree) (embed : Embed) → Assigns rule x e tree → IsEmbedAt schema e embed → HasKind tree embed.kind

-- ---- parameters

-- a value for each parameter, one of its kind
abbrev pub AreGoodParams : Rule → List Value → Type 0
AreGoodParams rule values = AllZip IsValueOf (param_kinds rule.params) values
