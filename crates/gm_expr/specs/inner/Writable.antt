-- Which trees can be written with the names of a schema and a rule, so that the names lead back to them.
use Rattle.std.specs.Prelude.{◌≡◌, ℕ, ◌≤◌, pos, false, if◌then◌else◌, List, map, Option, Some, None, is_some, IsTrue}
use Rattle.std.specs.List.{AllByRecursion, position}
use Rattle.std.specs.Str.{bytes_eq}
use Rattle.gm_model.specs.declared.expr.DartTerm.{DartTerm}
use Rattle.gm_model.specs.declared.rule.Param.{Param}
use Rattle.gm_model.specs.declared.schema.Embed.{Embed}
use Rattle.gm_model.specs.declared.word.Mask.{Mask}
use Rattle.gm_model.specs.Labels.{has}
use Rattle.gm_model.specs.Names.{IsName, reserved, is_among}
use Rattle.gm_model.specs.Rules.{RuleNode, name_at}
use Rattle.gm_model.specs.Trees.{Tree, Number, Truth, Param as Parameter, Field, Same, Count, Sum, Least, Greatest, Unary, Binary, If, MakeVec2, MakeVec3, MakeRgb}
use Rattle.gm_parse.specs.Meaning.{Names, is_named}
use Rattle.gm_parse.specs.Spelling.{greatest}
use Rattle.gm_expr.specs.ExprText.{param_name, embed_name}

-- ---- names

-- a name that a text can give
abbrev pub IsGoodName : List ℕ → Type 0
IsGoodName name = IsName name × (is_among reserved name ≡ false)

-- the name that expressions can use the node by
abbrev pub left_name_of : RuleNode → Option (List ℕ)
left_name_of node = if is_some node.left then Some node.name else None

-- ---- trees

-- over the embeddings of a schema, and the parameters and nodes of a rule
module _ (embeds : List Embed) (params : List Param) (nodes : List RuleNode) where
  pub record AreGoodNames : Type 0 where
    pub embeds_are : AllByRecursion (λ (embed : Embed). IsGoodName embed.name) embeds
    pub params_are : AllByRecursion (λ (param : Param). IsGoodName param.name) params
    pub nodes_are : AllByRecursion (λ (node : RuleNode). IsGoodName node.name) nodes

  -- what expressions can name
  abbrev pub names_of : Names
  names_of = record {
    embeds = map (λ (embed : Embed). embed.name) embeds;
    params = map (λ (param : Param). param.name) params;
    nodes = map left_name_of nodes;
  }

  -- the number is the one that its name leads to: of several with one name, that of the first
  abbrev pub IsGoodParam : ℕ → Type 0
  IsGoodParam k = position (bytes_eq (param_name params k)) names_of.params ≡ Some k

  abbrev pub IsGoodEmbed : ℕ → Type 0
  IsGoodEmbed e = position (bytes_eq (embed_name embeds e)) names_of.embeds ≡ Some e

  -- the same of the node, and labels up to n
  abbrev pub IsGoodTerm : ℕ → DartTerm → Type 0
  IsGoodTerm n term = (position (is_named (name_at nodes term.node)) names_of.nodes ≡ Some term.node) × AllByRecursion (λ i. i ≤ n) term.path

  abbrev pub IsGoodMask : ℕ → Mask → Type 0
  IsGoodMask n mask = (i : ℕ) → IsTrue (has mask i) → i ≤ n

  -- each number in the tree is the one that its name leads to, and no label or number is too large to be written
  abbrev pub IsWritable : ℕ → Tree → Type 0
  IsWritable n (Number z) = (k : ℕ) × (z ≡ pos k) × (k ≤ greatest)
  IsWritable n (Truth b) = Unit {0}
  IsWritable n (Parameter k) = IsGoodParam k
  IsWritable n (Field d e) = IsGoodTerm n d × IsGoodEmbed e
  IsWritable n (Same d d') = IsGoodTerm n d × IsGoodTerm n d'
  IsWritable n (Count o d) = IsGoodMask n o × IsGoodTerm n d
  IsWritable n (Sum o d e) = IsGoodMask n o × IsGoodTerm n d × IsGoodEmbed e
  IsWritable n (Least o d e) = IsGoodMask n o × IsGoodTerm n d × IsGoodEmbed e
  IsWritable n (Greatest o d e) = IsGoodMask n o × IsGoodTerm n d × IsGoodEmbed e
  IsWritable n (Unary op a) = IsWritable n a
  IsWritable n (Binary op a b) = IsWritable n a × IsWritable n b
  IsWritable n (If c a b) = IsWritable n c × IsWritable n a × IsWritable n b
  IsWritable n (MakeVec2 a b) = IsWritable n a × IsWritable n b
  IsWritable n (MakeVec3 a b c) = IsWritable n a × IsWritable n b × IsWritable n c
  IsWritable n (MakeRgb a b c) = IsWritable n a × IsWritable n b × IsWritable n c
