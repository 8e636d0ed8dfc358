-- How an expression is written: its one canonical text.
use Rattle.std.specs.Prelude.{ℕ, ◌<◌, nat_lt, if◌then◌else◌, List, [], ◌++◌, length, codes, decimal, slice_get}
use Rattle.std.specs.Fmt.{signed_decimal}
use Rattle.std.specs.List.{flat_map}
use Rattle.std.specs.Option.{option_map, unwrap_or}
use Rattle.gm_model.specs.declared.expr.BinOp.{BinOp}
use Rattle.gm_model.specs.declared.expr.BinOp.TheVariants as ops
use Rattle.gm_model.specs.declared.expr.DartTerm.{DartTerm}
use Rattle.gm_model.specs.declared.expr.UnOp.{UnOp}
use Rattle.gm_model.specs.declared.expr.UnOp.TheVariants as unary
use Rattle.gm_model.specs.declared.rule.Param.{Param}
use Rattle.gm_model.specs.declared.schema.Embed.{Embed}
use Rattle.gm_model.specs.declared.schema.Schema.{Schema}
use Rattle.gm_model.specs.declared.word.Mask.{Mask}
use Rattle.gm_model.specs.Rules.{Rule, RuleNode, name_at}
use Rattle.gm_text.specs.SchemaText.{labels_in, labels_text}
use Rattle.gm_text.specs.ValueText.{truth_text}
use Rattle.gm_parse.specs.Levels.{binary_level, least_of_part, least_on_left, least_on_right, unary_level}
use Rattle.gm_model.specs.Trees.{Tree, Number, Truth, Param as Parameter, Field, Same, Count, Sum, Least, Greatest, Unary, Binary, If, MakeVec2, MakeVec3, MakeRgb}

-- ---- levels

-- how tightly the form of a tree binds
abbrev pub level : Tree → ℕ
level (If c a b) = 0
level (Binary op a b) = binary_level op
level (Unary op a) = unary_level op
level _ = 8

-- in parentheses exactly where the tree's level is below the least one of its place
abbrev pub wrapped : ℕ → Tree → List ℕ → List ℕ
wrapped least tree text = if nat_lt (level tree) least then codes "(" ++ text ++ codes ")" else text

-- ---- signs

abbrev pub sign_of : BinOp → List ℕ
sign_of ops.Or = codes " or "
sign_of ops.And = codes " and "
sign_of ops.Eq = codes " == "
sign_of ops.Ne = codes " != "
sign_of ops.Lt = codes " < "
sign_of ops.Le = codes " <= "
sign_of ops.Gt = codes " > "
sign_of ops.Ge = codes " >= "
sign_of ops.Add = codes " + "
sign_of ops.Sub = codes " - "
sign_of ops.Mul = codes " * "
sign_of ops.Div = codes " / "
sign_of ops.Rem = codes " % "

-- what stands before the part
abbrev pub head_of : UnOp → List ℕ
head_of unary.Neg = codes "-"
head_of unary.Not = codes "not "
head_of unary.X = codes "x("
head_of unary.Y = codes "y("
head_of unary.Z = codes "z("
head_of unary.Red = codes "red("
head_of unary.Green = codes "green("
head_of unary.Blue = codes "blue("

-- what stands after it
abbrev pub tail_of : UnOp → List ℕ
tail_of unary.Neg = []
tail_of unary.Not = []
tail_of _ = codes ")"

-- ---- orbits and dart terms

-- <0 1 2>
abbrev pub orbit_text : Mask → List ℕ
orbit_text mask = codes "<" ++ labels_text (labels_in mask) ++ codes ">"

abbrev pub param_name : List Param → ℕ → List ℕ
param_name params k = unwrap_or (option_map (λ (param : Param). param.name) (slice_get params k)) []

abbrev pub embed_name : List Embed → ℕ → List ℕ
embed_name embeds e = unwrap_or (option_map (λ (embed : Embed). embed.name) (slice_get embeds e)) []

-- @0@1
abbrev pub path_text : List ℕ → List ℕ
path_text path = flat_map (λ i. codes "@" ++ decimal i) path

-- a@0@1
abbrev pub term_text : List RuleNode → DartTerm → List ℕ
term_text nodes term = name_at nodes term.node ++ path_text term.path

-- ---- expressions

-- same(a, b@0)
abbrev pub same_text : List RuleNode → DartTerm → DartTerm → List ℕ
same_text nodes d d' = codes "same(" ++ term_text nodes d ++ codes ", " ++ term_text nodes d' ++ codes ")"

-- count<0 1>(a@0)
abbrev pub count_text : List RuleNode → Mask → DartTerm → List ℕ
count_text nodes mask term = codes "count" ++ orbit_text mask ++ codes "(" ++ term_text nodes term ++ codes ")"

-- a@0.pos
abbrev pub field_text : List Embed → List RuleNode → DartTerm → ℕ → List ℕ
field_text embeds nodes term e = term_text nodes term ++ codes "." ++ embed_name embeds e

-- sum<0 1>(a@0.pos)
abbrev pub collector_text : List Embed → List RuleNode → List ℕ → Mask → DartTerm → ℕ → List ℕ
collector_text embeds nodes name mask term e = name ++ orbit_text mask ++ codes "(" ++ field_text embeds nodes term e ++ codes ")"

-- three arguments after a function's name and parenthesis
abbrev pub triple_text : List ℕ → List ℕ → List ℕ → List ℕ → List ℕ
triple_text head a b c = head ++ a ++ codes ", " ++ b ++ codes ", " ++ c ++ codes ")"

-- over the embeddings of a schema, and the parameters and nodes of a rule
module _ (embeds : List Embed) (params : List Param) (nodes : List RuleNode) where
  -- A number isn't below 0 where the expression was read.
  abbrev pub tree_text : Tree → List ℕ
  tree_text (Number n) = signed_decimal n
  tree_text (Truth b) = truth_text b
  tree_text (Parameter k) = param_name params k
  tree_text (Field d e) = field_text embeds nodes d e
  tree_text (Same d d') = same_text nodes d d'
  tree_text (Count o d) = count_text nodes o d
  tree_text (Sum o d e) = collector_text embeds nodes (codes "sum") o d e
  tree_text (Least o d e) = collector_text embeds nodes (codes "min") o d e
  tree_text (Greatest o d e) = collector_text embeds nodes (codes "max") o d e
  tree_text (Unary op a) = head_of op ++ wrapped (least_of_part op) a (tree_text a) ++ tail_of op
  tree_text (Binary op a b) = wrapped (least_on_left op) a (tree_text a) ++ sign_of op ++ wrapped (least_on_right op) b (tree_text b)
  tree_text (If c a b) = codes "if " ++ tree_text c ++ codes " then " ++ tree_text a ++ codes " else " ++ tree_text b
  tree_text (MakeVec2 a b) = codes "vec2(" ++ tree_text a ++ codes ", " ++ tree_text b ++ codes ")"
  tree_text (MakeVec3 a b c) = triple_text (codes "vec3(") (tree_text a) (tree_text b) (tree_text c)
  tree_text (MakeRgb a b c) = triple_text (codes "rgb(") (tree_text a) (tree_text b) (tree_text c)

-- the canonical text of an expression of the rule, over the schema
abbrev pub expr_text : Schema → Rule → Tree → List ℕ
expr_text schema rule tree = tree_text schema.embeds rule.params rule.nodes tree

-- ---- what can be written

module _ (schema : Schema) (rule : Rule) where
  abbrev pub IsTermNamed : DartTerm → Type 0
  IsTermNamed term = term.node < length rule.nodes

  abbrev pub IsFieldNamed : DartTerm → ℕ → Type 0
  IsFieldNamed term e = (term.node < length rule.nodes) × (e < length schema.embeds)

  -- each number of the tree that stands for a parameter, an embedding or a node is the number of one
  abbrev pub IsNamed : Tree → Type 0
  IsNamed (Number n) = Unit {0}
  IsNamed (Truth b) = Unit {0}
  IsNamed (Parameter k) = k < length rule.params
  IsNamed (Field d e) = IsFieldNamed d e
  IsNamed (Same d d') = IsTermNamed d × IsTermNamed d'
  IsNamed (Count o d) = IsTermNamed d
  IsNamed (Sum o d e) = IsFieldNamed d e
  IsNamed (Least o d e) = IsFieldNamed d e
  IsNamed (Greatest o d e) = IsFieldNamed d e
  IsNamed (Unary op a) = IsNamed a
  IsNamed (Binary op a b) = IsNamed a × IsNamed b
  IsNamed (If c a b) = IsNamed c × IsNamed a × IsNamed b
  IsNamed (MakeVec2 a b) = IsNamed a × IsNamed b
  IsNamed (MakeVec3 a b c) = IsNamed a × IsNamed b × IsNamed c
  IsNamed (MakeRgb a b c) = IsNamed a × IsNamed b × IsNamed c
