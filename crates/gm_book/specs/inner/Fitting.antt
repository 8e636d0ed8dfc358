-- What of a rule's form passes no limit.
use Rattle.std.specs.Prelude.{ℕ, ◌≤◌, length}
use Rattle.std.specs.List.{AllByRecursion}
use Rattle.gm_model.specs.declared.limit.TheConstants.{MOST_LINKS, MOST_NODES, MOST_PARAMS}
use Rattle.gm_model.specs.Structure.{HasLabelsUpTo}
use Rattle.gm_forms.specs.BookText.{Item, NodeItem, LinkItem, RuleForm, IsItem, IsPre, counted, no_count, nodes_of}
use Rattle.gm_model.specs.declared.rule.Side.TheVariants.{Right}

-- the labels of the item are at most n
abbrev pub IsLowItem : ℕ → Item → Type 0
IsLowItem n (NodeItem node word hook sets) = HasLabelsUpTo n word
IsLowItem n (LinkItem from label to) = label ≤ n

-- the parts of the rule pass no limit
pub record IsFitting (n : ℕ) (rule : RuleForm) : Type 0 where
  pub nodes : length (nodes_of rule) ≤ MOST_NODES
  pub params : length rule.params ≤ MOST_PARAMS
  pub left_links : (counted no_count rule.left).links ≤ MOST_LINKS
  pub right_links : (counted no_count rule.right).links ≤ MOST_LINKS
  pub left : AllByRecursion (IsLowItem n) rule.left
  pub right : AllByRecursion (IsLowItem n) rule.right

-- the expressions of the rule are expressions, in which labels go up to n
pub record HasExprs (n : ℕ) (rule : RuleForm) : Type 0 where
  pub sets : AllByRecursion (IsItem n Right) rule.right
  pub pre : IsPre n rule.pre
