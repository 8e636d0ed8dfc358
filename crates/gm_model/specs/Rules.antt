-- What a rule is, and what its nodes have on each side: words, links and steps.
use Rattle.std.specs.Prelude.{◌≡◌, ℕ, Bool, false, not, ◌&&◌, ◌||◌, ◌==◌, if◌then◌else◌, ◌⊎◌, List, [], length, map, Option, Some, None, is_some, slice_get}
use Rattle.std.specs.List.{Contains, find, position}
use Rattle.std.specs.Option.{option_map, option_and_then, unwrap_or}
use Rattle.gm_model.specs.declared.word.Letter.{Letter}
use Rattle.gm_model.specs.declared.word.Letter.TheVariants.{At, Gone}
use Rattle.gm_model.specs.declared.rule.Param.{Param}
use Rattle.gm_model.specs.declared.rule.Link.{Link}
use Rattle.gm_model.specs.declared.rule.Side.{Side}
use Rattle.gm_model.specs.declared.rule.Side.TheVariants.{Left, Right}
use Rattle.gm_model.specs.declared.rule.Set.{Set}
use Rattle.gm_model.specs.declared.rule.Node.{Node}
use Rattle.gm_model.specs.declared.rule.RuleTable.{RuleTable}
use Rattle.gm_model.specs.declared.step.Step.{Step}
use Rattle.gm_model.specs.declared.step.Step.TheVariants.{Absent, Exp, Imp}
use Rattle.gm_model.specs.Trees.{Tree, tree_of}

-- ---- rules with trees

-- Where the boxes of an expression lie is no part of a rule. So the definitions speak of this rule, and not of its table.
pub record Assignment : Type 0 where
  pub embed : ℕ
  pub tree : Tree

pub record RuleNode : Type 0 where
  pub name : List ℕ
  pub left : Option (List Letter)
  pub right : Option (List Letter)
  pub sets : List Assignment

pub record Rule : Type 0 where
  pub name : List ℕ
  pub params : List Param
  pub nodes : List RuleNode
  pub left_links : List Link
  pub right_links : List Link
  pub hooks : List ℕ
  pub pre : Option Tree

abbrev pub assignment_of : Set → Assignment
assignment_of s = record { embed = s.embed; tree = tree_of s.expr }

abbrev pub node_of : Node → RuleNode
node_of node = record { name = node.name; left = node.left; right = node.right; sets = map assignment_of node.sets }

-- the rule of a table
abbrev pub rule_of : RuleTable → Rule
rule_of table = record {
  name = table.name;
  params = table.params;
  nodes = map node_of table.nodes;
  left_links = table.left_links;
  right_links = table.right_links;
  hooks = table.hooks;
  pre = option_map tree_of table.pre;
}

-- ---- nodes, by their number

abbrev pub word_on : Side → RuleNode → Option (List Letter)
word_on Left node = node.left
word_on Right node = node.right

abbrev pub links_on : Rule → Side → List Link
links_on rule Left = rule.left_links
links_on rule Right = rule.right_links

abbrev pub word_at : Rule → Side → ℕ → Option (List Letter)
word_at rule side x = option_and_then (word_on side) (slice_get rule.nodes x)

abbrev pub name_at : List RuleNode → ℕ → List ℕ
name_at nodes x = unwrap_or (option_map (λ (node : RuleNode). node.name) (slice_get nodes x)) []

-- whether x is a node of the side
abbrev pub has_word : Rule → Side → ℕ → Bool
has_word rule side x = is_some (word_at rule side x)

-- the letters of x on the side
abbrev pub letters : Rule → Side → ℕ → List Letter
letters rule side x = unwrap_or (word_at rule side x) []

abbrev pub is_preserved : Rule → ℕ → Bool
is_preserved rule x = has_word rule Left x && has_word rule Right x

abbrev pub is_removed : Rule → ℕ → Bool
is_removed rule x = has_word rule Left x && not (has_word rule Right x)

abbrev pub is_added : Rule → ℕ → Bool
is_added rule x = not (has_word rule Left x) && has_word rule Right x

-- node x assigns the tree to the embedding
abbrev pub Assigns : Rule → ℕ → ℕ → Tree → Type 0
Assigns rule x e tree = (node : RuleNode) × (slice_get rule.nodes x ≡ Some node) × Contains node.sets (record { embed = e; tree = tree })

-- ---- links

abbrev pub link_from : ℕ → ℕ → ℕ → Link
link_from x i y = record { from = x; label = i; to = y }

-- a link of the list joins x and y with the label
abbrev pub IsLinked : List Link → ℕ → ℕ → ℕ → Type 0
IsLinked links x i y = Contains links (link_from x i y) ⊎ Contains links (link_from y i x)

-- x is an end of the link, which has the label
abbrev pub is_end : ℕ → ℕ → Link → Bool
is_end x i link = (link.label == i) && ((link.from == x) || (link.to == x))

-- the end that isn't x, or x itself at a link from x to x
abbrev pub other_end : ℕ → Link → ℕ
other_end x link = if link.from == x then link.to else link.from

-- ---- letters and steps

abbrev pub is_label : ℕ → Letter → Bool
is_label i (At j) = j == i
is_label i Gone = false

-- a link's step, or else a letter's
abbrev pub step_by : ℕ → Option Link → Option ℕ → Step
step_by x (Some link) place = Exp (other_end x link)
step_by x None (Some place) = Imp place
step_by x None None = Absent

-- what the links and the word of node x have at the label
abbrev pub step_in : List Link → List Letter → ℕ → ℕ → Step
step_in links word x i = step_by x (find (is_end x i) links) (position (is_label i) word)

-- the step of node x at label i on the side. In a rule that has no label twice at a node it is the only one.
abbrev pub step : Rule → Side → ℕ → ℕ → Step
step rule side x i = step_in (links_on rule side) (letters rule side x) x i

-- ---- hooks

abbrev pub first_hook : Rule → Option ℕ
first_hook rule = slice_get rule.hooks 0

-- the left word of the first hook; a creation rule has none, and the empty word in its place
abbrev pub hook_word : Rule → List Letter
hook_word rule = unwrap_or (option_and_then (word_at rule Left) (first_hook rule)) []

-- how many places each word has
abbrev pub width : Rule → ℕ
width rule = length (hook_word rule)

abbrev pub label_of : Letter → ℕ
label_of (At i) = i
label_of Gone = 0

-- the label at a place of a word
abbrev pub label_at : List Letter → ℕ → ℕ
label_at word m = unwrap_or (option_map label_of (slice_get word m)) 0

-- the label at a place of the first hook's word
abbrev pub hook_label : Rule → ℕ → ℕ
hook_label rule m = label_at (hook_word rule) m
