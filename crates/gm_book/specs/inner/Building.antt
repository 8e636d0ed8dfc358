-- Which rules have no fault of names, and which fault is their first otherwise; and what of a rule is read of its assignments.
use Rattle.std.specs.Prelude.{◌≡◌, ℕ, List, map, Option, is_some, IsTrue}
use Rattle.std.specs.List.{AllByRecursion, AllZip}
use Rattle.gm_model.specs.declared.schema.Embed.{Embed}
use Rattle.gm_model.specs.declared.rule.Param.{Param}
use Rattle.gm_model.specs.Rules.{Rule, RuleNode, Assignment}
use Rattle.gm_model.specs.Trees.{Tree}
use Rattle.gm_parse.specs.Meaning.{Names, embed_number}
use Rattle.gm_forms.specs.BookText.{ExprToken, SetForm, Item, NodeItem, LinkItem, RuleForm, IsExpr, IsFaultInRules, IsNotAfter, TwiceAt, UnknownAt, WrongKindAt, MeansSet, MeansPre, MeansRule, kind_of_embed, names_for, nodes_of, node_in, param_of, sets_in}
use Rattle.gm_forms.specs.BookText as text
use Rattle.gm_book.specs.inner.FirstNameFault.{IsValueFault, IsPreFault, IsFaultInRule}
use Rattle.gm_book.specs.declared.fault.BookFault.{BookFault}
use Rattle.gm_book.specs.declared.fault.BookFault.TheVariants as faults
use Rattle.gm_book.specs.declared.names.NameFault.{NameFault}
use Rattle.gm_book.specs.declared.names.NameFault.TheVariants.{Twice, Unknown, WrongKind}

abbrev pub book_fault_of : NameFault → BookFault
book_fault_of (Twice place) = faults.Twice place
book_fault_of (Unknown place) = faults.Unknown place
book_fault_of (WrongKind place) = faults.WrongKind place

module _ (n : ℕ) (embeds : List Embed) (rules : List RuleForm) where
  abbrev pub HasNoFaultInRules : Type 0
  HasNoFaultInRules = (fault : text.NameFault) → IsFaultInRules n embeds rules fault → ⊥

  -- the fault of the rules' names that counts first
  pub record IsFirstInRules (fault : text.NameFault) : Type 0 where
    pub found : IsFaultInRules n embeds rules fault
    pub first : (other : text.NameFault) → IsFaultInRules n embeds rules other → IsNotAfter fault other

  -- a fault of names is the first; else memory ran out
  abbrev pub IsFaultOfNames : BookFault → Type 0
  IsFaultOfNames (faults.Twice place) = IsFirstInRules (TwiceAt place)
  IsFaultOfNames (faults.Unknown place) = IsFirstInRules (UnknownAt place)
  IsFaultOfNames (faults.WrongKind place) = IsFirstInRules (WrongKindAt place)
  IsFaultOfNames faults.OutOfMemory = Unit {0}
  IsFaultOfNames _ = ⊥

-- ---- assignments

-- what is assigned is an embedding, and an expression is assigned to it
pub record IsKnownSet (n : ℕ) (names : Names) (set : SetForm) : Type 0 where
  pub embed : IsTrue (is_some (embed_number names set.embed))
  pub value : IsExpr n set.value

abbrev pub HasKnownSets : ℕ → Names → Item → Type 0
HasKnownSets n names (NodeItem node word hook sets) = AllByRecursion (IsKnownSet n names) sets
HasKnownSets n names (LinkItem from label to) = Unit {0}

-- it means what is written, and its expression has no fault
pub record IsSoundSet (n : ℕ) (embeds : List Embed) (params : List Param) (names : Names) (set : SetForm) (assignment : Assignment) : Type 0 where
  pub means : MeansSet n names set assignment
  pub sound : (fault : NameFault) → IsValueFault n embeds params names set.value (kind_of_embed embeds set.embed.name) fault → ⊥

-- the node of the rule with the name, whose assignments are sound
pub record IsSoundNode (n : ℕ) (embeds : List Embed) (params : List Param) (names : Names) (rule : RuleForm) (name : List ℕ) (node : RuleNode) : Type 0 where
  pub sets : AllZip (IsSoundSet n embeds params names) (sets_in rule.right name) node.sets
  pub same : node ≡ node_in rule (λ _. node.sets) name

-- the same of a precondition
pub record IsSoundPre (n : ℕ) (embeds : List Embed) (params : List Param) (names : Names) (tokens : Option (List ExprToken)) (pre : Option Tree) : Type 0 where
  pub means : MeansPre n names tokens pre
  pub sound : (fault : NameFault) → IsPreFault n embeds params names tokens fault → ⊥

-- what was read of a rule's expressions: its nodes with their assignments, and its precondition; and no expression has a fault
pub record AreSoundValues (n : ℕ) (embeds : List Embed) (rule : RuleForm) (nodes : List RuleNode) (pre : Option Tree) : Type 0 where
  pub nodes_are : AllZip (IsSoundNode n embeds (map param_of rule.params) (names_for embeds rule) rule) (nodes_of rule) nodes
  pub pre_is : IsSoundPre n embeds (map param_of rule.params) (names_for embeds rule) rule.pre pre

-- the rule means what is written, and there is no fault in it
pub record IsSoundRule (n : ℕ) (embeds : List Embed) (form : RuleForm) (rule : Rule) : Type 0 where
  pub means : MeansRule n embeds form rule
  pub sound : (fault : NameFault) → IsFaultInRule n embeds form fault → ⊥
