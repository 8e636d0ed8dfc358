-- The canonical form of rules: the form that their canonical text spells, with the places of marks.
use Rattle.std.proofs.Common.{◌≡◌, ℕ, ◌+◌, ◌<◌, ◌≤◌, Bool, true, false, ◌&&◌, eqb, List, [], ◌∷◌, ◌++◌, length, map, Option, Some, None, is_some, codes}
use Rattle.std.specs.Prelude.{decimal}
use Rattle.std.specs.List.{flat_map, list_any, AllByRecursion}
use Rattle.gm_model.specs.declared.word.Letter.{Letter}
use Rattle.gm_model.specs.declared.word.Letter.TheVariants as letters
use Rattle.gm_model.specs.declared.rule.Link.{Link}
use Rattle.gm_model.specs.declared.rule.Param.{Param}
use Rattle.gm_model.specs.declared.rule.Side.{Side}
use Rattle.gm_model.specs.declared.rule.Side.TheVariants.{Left, Right}
use Rattle.gm_model.specs.declared.schema.Schema.{Schema}
use Rattle.gm_model.specs.declared.value.Kind.{Kind}
use Rattle.gm_model.specs.declared.value.Kind.TheVariants.{Bool as Truth}
use Rattle.gm_model.specs.Kinds.{embed_kind, param_kinds, tree_kind}
use Rattle.gm_model.specs.Reading.{Part}
use Rattle.gm_model.specs.Symbols.{Mark}
use Rattle.gm_model.specs.Names.{is_among}
use Rattle.gm_model.specs.Rules.{Rule, RuleNode, Assignment, word_on, links_on, has_word, name_at}
use Rattle.gm_model.specs.Trees.{Tree}
use Rattle.gm_parse.specs.Forms.{Form}
use Rattle.gm_parse.specs.Spelling.{Counted, parts_of}
use Rattle.gm_expr.proofs.Canonical as trees
use Rattle.gm_expr.proofs.Canonical.{behind, place_in, at}
use Rattle.gm_expr.proofs.CanonicalLength.{AreWithin}
use Rattle.gm_expr.specs.ExprText.{embed_name}
use Rattle.gm_expr.specs.inner.Writable as writable
use Rattle.gm_forms.specs.BookText.{Item, NodeItem, LinkItem, ParamForm, RuleForm, SetForm, ExprToken}
use Rattle.gm_book.specs.Canonical.{node_line, hook_text, set_text}

-- ---- lines

-- a line of a side, by what it is made of
pub data Line : Type 0 where
  NodeLine : List ℕ → List Letter → Bool → List Assignment → Line
  LinkLine : List ℕ → ℕ → List ℕ → Line

-- the line of a node with the word, and then these
abbrev pub line_before : List ℕ → Option (List Letter) → Bool → List Assignment → List Line → List Line
line_before name None hook sets lines = lines
line_before name (Some word) hook sets lines = NodeLine name word hook sets ∷ lines

-- only right lines have assignments
abbrev pub sets_on : Side → RuleNode → List Assignment
sets_on Left node = []
sets_on Right node = node.sets

-- the nodes of the side, from the one with this number on, and then these
abbrev pub node_lines : Side → (ℕ → Bool) → ℕ → List RuleNode → List Line → List Line
node_lines side hook x [] lines = lines
node_lines side hook x (node ∷ nodes) lines = line_before node.name (word_on side node) (hook x) (sets_on side node) (node_lines side hook (x + 1) nodes lines)

abbrev pub tie : List RuleNode → Link → Line
tie nodes link = LinkLine (name_at nodes link.from) link.label (name_at nodes link.to)

abbrev pub hook_on : Rule → Side → ℕ → Bool
hook_on rule Left x = list_any (eqb x) rule.hooks
hook_on rule Right x = false

abbrev pub lines_of : Rule → Side → List Line
lines_of rule side = node_lines side (hook_on rule side) 0 rule.nodes (map (tie rule.nodes) (links_on rule side))

-- ---- forms, each name at the place of its mark

abbrev pub behind_letters : List Letter → List Mark → List Mark
behind_letters [] marks = marks
behind_letters (x ∷ word) marks = behind_letters word (behind marks)

abbrev pub behind_hook : Bool → List Mark → List Mark
behind_hook true marks = behind marks
behind_hook false marks = marks

-- behind a node's name, its word in signs, and its hook
abbrev pub behind_word : List Letter → Bool → List Mark → List Mark
behind_word word hook marks = behind_hook hook (behind (behind_letters word (behind (behind marks))))

-- a token of each part, at the places of the marks
abbrev pub tokens_from : List Mark → List (Part Counted) → List ExprToken
tokens_from marks [] = []
tokens_from marks (part ∷ parts) = record { symbol = part.symbol; place = place_in marks; role = part.role } ∷ tokens_from (behind marks) parts

abbrev pub behind_tokens : List ExprToken → List Mark → List Mark
behind_tokens [] marks = marks
behind_tokens (token ∷ tokens) marks = behind_tokens tokens (behind marks)

-- over a schema, and a rule whose parameters and nodes can be named
module _ (schema : Schema) (rule : Rule) where
  abbrev pub text_of : Line → List ℕ
  text_of (NodeLine name word hook sets) = node_line name word (hook_text hook ++ flat_map (set_text schema rule) sets)
  text_of (LinkLine from label to) = from ++ codes " -" ++ decimal label ++ codes "- " ++ to ++ codes "\n"

  -- the canonical form of an expression
  abbrev pub expr_at : List Mark → Tree → Form
  expr_at marks tree = trees.form_at schema.embeds rule.params rule.nodes marks tree

  abbrev pub value_at : List Mark → Tree → List ExprToken
  value_at marks tree = tokens_from marks (parts_of schema.dim (expr_at marks tree))

  abbrev pub behind_value : List Mark → Tree → List Mark
  behind_value marks tree = behind_tokens (value_at marks tree) marks

  -- with pos = a.pos
  abbrev pub set_at : List Mark → Assignment → SetForm
  set_at marks set = record { embed = at (behind marks) (embed_name schema.embeds set.embed); value = value_at (behind (behind (behind marks))) set.tree }

  abbrev pub behind_set : Assignment → List Mark → List Mark
  behind_set set marks = behind_value (behind (behind (behind marks))) set.tree

  abbrev pub sets_at : List Mark → List Assignment → List SetForm
  sets_at marks [] = []
  sets_at marks (set ∷ sets) = set_at marks set ∷ sets_at (behind_set set marks) sets

  abbrev pub behind_sets : List Assignment → List Mark → List Mark
  behind_sets [] marks = marks
  behind_sets (set ∷ sets) marks = behind_sets sets (behind_set set marks)

  abbrev pub behind_line : Line → List Mark → List Mark
  behind_line (NodeLine name word hook sets) marks = behind_sets sets (behind_word word hook marks)
  behind_line (LinkLine from label to) marks = behind (behind (behind (behind (behind marks))))

  abbrev pub item_at : List Mark → Line → Item
  item_at marks (NodeLine name word hook sets) = NodeItem (at marks name) word hook (sets_at (behind_word word hook marks) sets)
  item_at marks (LinkLine from label to) = LinkItem (at marks from) label (at (behind (behind (behind (behind marks)))) to)

  abbrev pub items_at : List Mark → List Line → List Item
  items_at marks [] = []
  items_at marks (line ∷ lines) = item_at marks line ∷ items_at (behind_line line marks) lines

  abbrev pub behind_lines : List Line → List Mark → List Mark
  behind_lines [] marks = marks
  behind_lines (line ∷ lines) marks = behind_lines lines (behind_line line marks)

  abbrev pub pre_at : List Mark → Option Tree → Option (List ExprToken)
  pre_at marks None = None
  pre_at marks (Some tree) = Some (value_at (behind marks) tree)

  abbrev pub behind_pre : Option Tree → List Mark → List Mark
  behind_pre None marks = marks
  behind_pre (Some tree) marks = behind_value (behind marks) tree

-- behind so many marks at the sign before a parameter, each has four: the sign, its name, a sign and its kind
abbrev pub behind_param : List Mark → List Mark
behind_param marks = behind (behind (behind (behind marks)))

abbrev pub params_at : List Mark → List Param → List ParamForm
params_at marks [] = []
params_at marks (param ∷ params) = record { name = at (behind marks) param.name; kind = param.kind } ∷ params_at (behind_param marks) params

abbrev pub behind_more_params : List Param → List Mark → List Mark
behind_more_params [] marks = behind marks
behind_more_params (param ∷ params) marks = behind_more_params params (behind_param marks)

abbrev pub behind_params : List Param → List Mark → List Mark
behind_params [] marks = marks
behind_params (param ∷ params) marks = behind_more_params params (behind_param marks)

abbrev pub left_marks : Rule → List Mark → List Mark
left_marks rule marks = behind (behind_params rule.params (behind (behind marks)))

module _ (schema : Schema) where
  abbrev pub right_marks : Rule → List Mark → List Mark
  right_marks rule marks = behind (behind_lines schema rule (lines_of rule Left) (left_marks rule marks))

  abbrev pub pre_marks : Rule → List Mark → List Mark
  pre_marks rule marks = behind_lines schema rule (lines_of rule Right) (right_marks rule marks)

  abbrev pub behind_rule : Rule → List Mark → List Mark
  behind_rule rule marks = behind_pre schema rule rule.pre (pre_marks rule marks)

  abbrev pub form_at : List Mark → Rule → RuleForm
  form_at marks rule = record {
    name = at (behind marks) rule.name;
    params = params_at (behind (behind marks)) rule.params;
    left = items_at schema rule (left_marks rule marks) (lines_of rule Left);
    right = items_at schema rule (right_marks rule marks) (lines_of rule Right);
    pre = pre_at schema rule (pre_marks rule marks) rule.pre;
  }

  abbrev pub forms_at : List Mark → List Rule → List RuleForm
  forms_at marks [] = []
  forms_at marks (rule ∷ rules) = form_at marks rule ∷ forms_at (behind_rule rule marks) rules

-- ---- what a text can hold

abbrev pub IsGoodName : List ℕ → Type 0
IsGoodName name = writable.IsGoodName name

-- a letter up to label n
abbrev pub IsGoodLetter : ℕ → Letter → Type 0
IsGoodLetter n (letters.At i) = i ≤ n
IsGoodLetter n letters.Gone = Unit {0}

abbrev pub IsGoodWord : ℕ → List Letter → Type 0
IsGoodWord n word = (length word ≤ 8) × AllByRecursion (IsGoodLetter n) word

abbrev pub IsGoodWordIfAny : ℕ → Option (List Letter) → Type 0
IsGoodWordIfAny n None = Unit {0}
IsGoodWordIfAny n (Some word) = IsGoodWord n word

pub record IsGoodNode (n : ℕ) (node : RuleNode) : Type 0 where
  pub name : IsGoodName node.name
  pub left : IsGoodWordIfAny n node.left
  pub right : IsGoodWordIfAny n node.right

pub record IsGoodLink (n : ℕ) (rule : Rule) (side : Side) (link : Link) : Type 0 where
  pub label : link.label ≤ n
  pub from : has_word rule side link.from ≡ true
  pub to : has_word rule side link.to ≡ true

-- no name is among those before it, nor among those seen
abbrev pub AreNew : List (List ℕ) → List (List ℕ) → Type 0
AreNew seen [] = Unit {0}
AreNew seen (name ∷ names) = (is_among seen name ≡ false) × AreNew (seen ++ name ∷ []) names

abbrev pub number_if : Bool → ℕ → List ℕ → List ℕ
number_if true x xs = x ∷ xs
number_if false x xs = xs

-- the numbers of the left nodes that pass the test
abbrev pub numbers_where : (ℕ → Bool) → ℕ → List RuleNode → List ℕ
numbers_where test x [] = []
numbers_where test x (node ∷ nodes) = number_if (is_some node.left && test x) x (numbers_where test (x + 1) nodes)

abbrev pub node_names : List RuleNode → List (List ℕ)
node_names nodes = map (λ (node : RuleNode). node.name) nodes

abbrev pub IsGoodParam : Param → Type 0
IsGoodParam param = IsGoodName param.name

abbrev pub param_names : List Param → List (List ℕ)
param_names params = map (λ (param : Param). param.name) params

-- a rule as a text can give it, but for its expressions
pub record IsWritable (n : ℕ) (rule : Rule) : Type 0 where
  pub name : IsGoodName rule.name
  pub nodes : AllByRecursion (IsGoodNode n) rule.nodes
  pub differ : AreNew [] (node_names rule.nodes)
  pub few_nodes : length rule.nodes ≤ 32
  pub left_nodes : List RuleNode
  pub added_nodes : List RuleNode
  pub left_first : rule.nodes ≡ left_nodes ++ added_nodes
  pub left : AllByRecursion (λ (node : RuleNode). is_some node.left ≡ true) left_nodes
  pub added : AllByRecursion (λ (node : RuleNode). (is_some node.left ≡ false) × (is_some node.right ≡ true)) added_nodes
  pub links : (side : Side) → AllByRecursion (IsGoodLink n rule side) (links_on rule side)
  pub few_links : (side : Side) → length (links_on rule side) ≤ 256
  pub hooks : numbers_where (hook_on rule Left) 0 rule.nodes ≡ rule.hooks
  pub params : AllByRecursion IsGoodParam rule.params
  pub params_differ : AreNew [] (param_names rule.params)
  pub few_params : length rule.params ≤ 8

-- ---- expressions that a text can hold

-- the names of the embeddings that are assigned
abbrev pub set_names : Schema → List Assignment → List (List ℕ)
set_names schema sets = map (λ (set : Assignment). embed_name schema.embeds set.embed) sets

module _ (schema : Schema) (rule : Rule) where
  -- an expression of the kind, which its canonical form gives within the limits
  pub record IsGoodValue (tree : Tree) (kind : Option Kind) : Type 0 where
    pub can : writable.IsWritable schema.embeds rule.params rule.nodes schema.dim tree
    pub short : (marks : List Mark) → AreWithin (parts_of schema.dim (expr_at schema rule marks tree))
    pub kind_is : tree_kind schema.embeds (param_kinds rule.params) tree ≡ kind

  pub record IsGoodSet (set : Assignment) : Type 0 where
    pub embed : set.embed < length schema.embeds
    pub value : IsGoodValue set.tree (embed_kind schema.embeds (param_kinds rule.params) set.embed)

  -- each embedding is assigned once, on a right node
  pub record HasGoodSets (node : RuleNode) : Type 0 where
    pub each : AllByRecursion IsGoodSet node.sets
    pub differ : AreNew [] (set_names schema node.sets)
    pub on_right : node.right ≡ None → node.sets ≡ []

  -- the expressions of a rule as a text can give it
  pub record HasGoodExprs : Type 0 where
    pub sets : AllByRecursion HasGoodSets rule.nodes
    pub pre : (tree : Tree) → rule.pre ≡ Some tree → IsGoodValue tree (Some Truth)

  abbrev pub IsGoodLine : Line → Type 0
  IsGoodLine (NodeLine name word hook sets) = IsGoodName name × IsGoodWord schema.dim word × AllByRecursion IsGoodSet sets
  IsGoodLine (LinkLine from label to) = IsGoodName from × (label ≤ schema.dim) × IsGoodName to
