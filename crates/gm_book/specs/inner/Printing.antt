-- Which books can be printed, and what is printed of one node.
use Rattle.std.specs.Prelude.{◌≡◌, ℕ, ◌<◌, Bool, true, false, not, All, List, [], length, Option, None, Some, is_some}
use Rattle.gm_model.specs.declared.word.Letter.{Letter}
use Rattle.gm_model.specs.declared.rule.Link.{Link}
use Rattle.gm_model.specs.Rules.{Rule, RuleNode, Assignment}
use Rattle.gm_model.specs.declared.schema.Schema.{Schema}
use Rattle.gm_model.specs.Trees.{Tree}
use Rattle.std.specs.List.{AllByRecursion}
use Rattle.gm_expr.specs.ExprText.{IsNamed}
use Rattle.gm_book.specs.Canonical.{node_line, hook_text}

-- both ends are among this many nodes
abbrev pub AreEndsNodes : ℕ → Link → Type 0
AreEndsNodes nodes link = (link.from < nodes) × (link.to < nodes)

-- each number in the rule that stands for a node names one of its nodes
pub record NamesItsNodes (rule : Rule) : Type 0 where
  pub left : All (AreEndsNodes (length rule.nodes)) rule.left_links
  pub right : All (AreEndsNodes (length rule.nodes)) rule.right_links
  pub hooks : All (λ hook. hook < length rule.nodes) rule.hooks

-- each number in the assignments names something
abbrev pub AreNamed : Schema → Rule → List Assignment → Type 0
AreNamed schema rule sets = AllByRecursion (λ (set : Assignment). (set.embed < length schema.embeds) × IsNamed schema rule set.tree) sets

-- the same in the whole rule
pub record HasNamedExprs (schema : Schema) (rule : Rule) : Type 0 where
  pub sets : AllByRecursion (λ (node : RuleNode). AreNamed schema rule node.sets) rule.nodes
  pub pre : (tree : Tree) → rule.pre ≡ Some tree → IsNamed schema rule tree

-- each number in the rules names something
pub record CanBePrinted (schema : Schema) (rules : List Rule) : Type 0 where
  pub numbers : All NamesItsNodes rules
  pub exprs : All (HasNamedExprs schema) rules

-- the line of a left node, and nothing of another
abbrev pub left_line : RuleNode → Bool → List ℕ
left_line node hook = line node.left
  where
    line : Option (List Letter) → List ℕ
    line None = []
    line (Some word) = node_line node.name word (hook_text hook)

-- the node has a left word, or has none
abbrev pub is_left : Bool → RuleNode → Bool
is_left true node = is_some node.left
is_left false node = not (is_some node.left)
