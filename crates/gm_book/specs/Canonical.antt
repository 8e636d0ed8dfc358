-- The one canonical text of a book.
use Rattle.std.specs.Prelude.{ℕ, ◌+◌, Bool, true, false, not, List, [], ◌∷◌, ◌++◌, filter, Option, Some, None, is_some, nat_eq, codes, decimal}
use Rattle.std.specs.List.{flat_map, list_any}
use Rattle.gm_model.specs.declared.rule.Link.{Link}
use Rattle.gm_model.specs.declared.rule.Param.{Param}
use Rattle.gm_model.specs.declared.schema.Schema.{Schema}
use Rattle.gm_model.specs.declared.word.Letter.{Letter}
use Rattle.gm_model.specs.declared.word.Letter.TheVariants as letters
use Rattle.gm_model.specs.Rules.{Rule, RuleNode, Assignment, name_at}
use Rattle.gm_model.specs.Trees.{Tree}
use Rattle.gm_text.specs.SchemaText as schemas
use Rattle.gm_text.specs.SchemaText.{kind_word}
use Rattle.gm_expr.specs.ExprText.{expr_text, embed_name}

abbrev pub letter_text : Letter → List ℕ
letter_text (letters.At i) = decimal i
letter_text letters.Gone = codes "_"

-- 0 1 _
abbrev pub letters_text : List Letter → List ℕ
letters_text [] = []
letters_text (x ∷ word) = letter_text x ++ flat_map (λ y. 32 ∷ letter_text y) word

abbrev pub hook_text : Bool → List ℕ
hook_text true = codes " hook"
hook_text false = []

-- a <0 1> hook
abbrev pub node_line : List ℕ → List Letter → List ℕ → List ℕ
node_line name word behind = name ++ codes " <" ++ letters_text word ++ codes ">" ++ behind ++ codes "\n"

-- the left nodes, from the one with this number on
abbrev pub left_lines : List ℕ → ℕ → List RuleNode → List ℕ
left_lines hooks x [] = []
left_lines hooks x (node ∷ nodes) = left_line node.left ++ left_lines hooks (x + 1) nodes
  where
    left_line : Option (List Letter) → List ℕ
    left_line None = []
    left_line (Some word) = node_line node.name word (hook_text (list_any (nat_eq x) hooks))

-- with col = rgb(0, 0, 0)
abbrev pub set_text : Schema → Rule → Assignment → List ℕ
set_text schema rule set = codes " with " ++ embed_name schema.embeds set.embed ++ codes " = " ++ expr_text schema rule set.tree

abbrev pub right_line : Schema → Rule → RuleNode → List ℕ
right_line schema rule node = line node.right
  where
    line : Option (List Letter) → List ℕ
    line None = []
    line (Some word) = node_line node.name word (flat_map (set_text schema rule) node.sets)

-- the preserved nodes, and then the added ones
abbrev pub right_lines : Schema → Rule → List ℕ
right_lines schema rule =
    flat_map (right_line schema rule) (filter (λ (node : RuleNode). is_some node.left) rule.nodes) ++ flat_map (right_line schema rule) (filter (λ (node : RuleNode). not (is_some node.left)) rule.nodes)

abbrev pub pre_line : Schema → Rule → List ℕ
pre_line schema rule = line rule.pre
  where
    line : Option Tree → List ℕ
    line None = []
    line (Some tree) = codes "pre " ++ expr_text schema rule tree ++ codes "\n"

-- a -1- b
abbrev pub link_line : List RuleNode → Link → List ℕ
link_line nodes link = name_at nodes link.from ++ codes " -" ++ decimal link.label ++ codes "- " ++ name_at nodes link.to ++ codes "\n"

-- v: vec3
abbrev pub param_text : Param → List ℕ
param_text param = param.name ++ codes ": " ++ kind_word param.kind

-- (v: vec3, w: int)
abbrev pub params_text : List Param → List ℕ
params_text [] = []
params_text (param ∷ params) = codes "(" ++ param_text param ++ flat_map (λ other. codes ", " ++ param_text other) params ++ codes ")"

abbrev pub rule_lines : Schema → Rule → List ℕ
rule_lines schema rule =
    codes "rule " ++ rule.name ++ params_text rule.params ++ codes "\nleft\n" ++ left_lines rule.hooks 0 rule.nodes ++ flat_map (link_line rule.nodes) rule.left_links
    ++ codes "right\n" ++ right_lines schema rule ++ flat_map (link_line rule.nodes) rule.right_links ++ pre_line schema rule

abbrev pub canonical : ℕ → Schema → List Rule → List ℕ
canonical version schema rules = codes "book " ++ decimal version ++ codes "\n" ++ schemas.canonical schema ++ flat_map (rule_lines schema) rules
