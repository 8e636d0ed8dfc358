-- All rules that a text stands for can be printed: each of their numbers names something.
use Rattle.std.proofs.Common.{◌≡◌, ℕ, ◌+◌, ◌<◌, inl, inr, Bool, true, false, ◌&&◌, List, [], ◌∷◌, length, None, is_some, refl, subst, arith}
use Rattle.std.specs.Prelude.{slice_get}
use Rattle.std.specs.List.{AllByRecursion}
use Rattle.std.proofs.lemmas.Bool.{cases_lt}
use Rattle.std.proofs.lemmas.List.Elements.{All-from_recursion}
use Rattle.std.proofs.lemmas.Option.{slice_get_past}
use Rattle.gm_model.specs.declared.expr.DartTerm.{DartTerm}
use Rattle.gm_model.specs.declared.rule.Side.{Side}
use Rattle.gm_model.specs.declared.rule.Side.TheVariants.{Left, Right}
use Rattle.gm_model.specs.declared.schema.Schema.{Schema}
use Rattle.gm_model.specs.Rules.{Rule, RuleNode, has_word, links_on}
use Rattle.gm_model.specs.Trees.{Tree, Number, Truth, Param as Parameter, Field, Same, Count, Sum, Least, Greatest, Unary, Binary, If, MakeVec2, MakeVec3, MakeRgb}
use Rattle.gm_expr.specs.ExprText.{IsNamed}
use Rattle.gm_expr.specs.inner.Writable as trees
use Rattle.gm_expr.proofs.Found.{param_low, embed_low, node_low}
use Rattle.gm_forms.specs.BookText.{BookText}
use Rattle.gm_book.specs.inner.Printing.{AreEndsNodes, NamesItsNodes, AreNamed, HasNamedExprs, CanBePrinted}
use Rattle.gm_book.proofs.CanonicalForm.{number_if, numbers_where, hook_on, IsGoodLink, IsWritable, IsGoodSet, HasGoodSets, HasGoodExprs}
use Rattle.gm_book.proofs.CanonicalText.{each}
use Rattle.gm_book.proofs.ReadAgain.{exprs_from_text}
use Rattle.gm_book.proofs.ReadRules.{writable_from_text}

-- ---- nodes

-- a number with a word is one of a node
node_with_word : (rule : Rule) (side : Side) (x : ℕ) → has_word rule side x ≡ true → x < length rule.nodes
node_with_word rule side x has = elim (cases_lt x (length rule.nodes)) [
  | inl lt ↦ lt
  | inr past ↦ (let none : slice_get rule.nodes x ≡ None = slice_get_past rule.nodes x past in absurd (let no : has_word rule side x ≡ false = rw none refl in cc))
]

numbers_low : (test : ℕ → Bool) (x : ℕ) (nodes : List RuleNode) → AllByRecursion (λ h. h < x + length nodes) (numbers_where test x nodes)
numbers_low test x [] = tt
numbers_low test x (node ∷ nodes) = go (is_some node.left && test x) (each _ _ (λ h low. omega (arith, low)) (numbers_where test (x + 1) nodes) (numbers_low test (x + 1) nodes))
  where
    go : (passes : Bool) → AllByRecursion (λ h. h < x + length (node ∷ nodes)) (numbers_where test (x + 1) nodes) → AllByRecursion (λ h. h < x + length (node ∷ nodes)) (number_if passes x (numbers_where test (x + 1) nodes))
    go true later = (omega arith, later)
    go false later = later

module _ (n : ℕ) (rule : Rule) (ok : IsWritable n rule) where
  links_named : (side : Side) → AllByRecursion (AreEndsNodes (length rule.nodes)) (links_on rule side)
  links_named side = each (IsGoodLink n rule side) (AreEndsNodes (length rule.nodes)) (λ link good. (node_with_word rule side link.from good.from, node_with_word rule side link.to good.to)) (links_on rule side) (ok.links side)

  hooks_named : AllByRecursion (λ h. h < length rule.nodes) rule.hooks
  hooks_named = subst (AllByRecursion (λ h. h < length rule.nodes)) ok.hooks
      (each (λ h. h < 0 + length rule.nodes) (λ h. h < length rule.nodes) (λ h low. omega (arith, low)) (numbers_where (hook_on rule Left) 0 rule.nodes) (numbers_low (hook_on rule Left) 0 rule.nodes))

  pub names_its_nodes : NamesItsNodes rule
  names_its_nodes = record {
    left = All-from_recursion (AreEndsNodes (length rule.nodes)) rule.left_links (links_named Left);
    right = All-from_recursion (AreEndsNodes (length rule.nodes)) rule.right_links (links_named Right);
    hooks = All-from_recursion (λ h. h < length rule.nodes) rule.hooks hooks_named;
  }

-- ---- expressions

module _ (schema : Schema) (rule : Rule) where
  term_named : (term : DartTerm) → trees.IsGoodTerm schema.embeds rule.params rule.nodes schema.dim term → term.node < length rule.nodes
  term_named term good = node_low schema.embeds rule.params rule.nodes schema.dim term good

  embed_named : (e : ℕ) → trees.IsGoodEmbed schema.embeds rule.params rule.nodes e → e < length schema.embeds
  embed_named e = embed_low schema.embeds rule.params rule.nodes e

  tree_named : (tree : Tree) → trees.IsWritable schema.embeds rule.params rule.nodes schema.dim tree → IsNamed schema rule tree
  tree_named (Number z) can = tt
  tree_named (Truth b) can = tt
  tree_named (Parameter k) can = param_low schema.embeds rule.params rule.nodes k can
  tree_named (Field d e) can = (term_named d can.0, embed_named e can.1)
  tree_named (Same d d') can = (term_named d can.0, term_named d' can.1)
  tree_named (Count o d) can = term_named d can.1
  tree_named (Sum o d e) can = (term_named d can.1, embed_named e can.2)
  tree_named (Least o d e) can = (term_named d can.1, embed_named e can.2)
  tree_named (Greatest o d e) can = (term_named d can.1, embed_named e can.2)
  tree_named (Unary op a) can = tree_named a can
  tree_named (Binary op a b) can = (tree_named a can.0, tree_named b can.1)
  tree_named (If c a b) can = (tree_named c can.0, tree_named a can.1, tree_named b can.2)
  tree_named (MakeVec2 a b) can = (tree_named a can.0, tree_named b can.1)
  tree_named (MakeVec3 a b c) can = (tree_named a can.0, tree_named b can.1, tree_named c can.2)
  tree_named (MakeRgb a b c) can = (tree_named a can.0, tree_named b can.1, tree_named c can.2)

  pub has_named_exprs : HasGoodExprs schema rule → HasNamedExprs schema rule
  has_named_exprs exprs = record {
    sets = each (HasGoodSets schema rule) (λ (node : RuleNode). AreNamed schema rule node.sets)
        (λ node good. each (IsGoodSet schema rule) _ (λ set one. (one.embed, tree_named set.tree one.value.can)) node.sets good.each) rule.nodes exprs.sets;
    pre = λ tree is. tree_named tree (exprs.pre tree is).can;
  }

-- ---- a book

pub printable_from_text : (text : List ℕ) (version : ℕ) (schema : Schema) (rules : List Rule) → BookText text version schema rules → CanBePrinted schema rules
printable_from_text text version schema rules stands = record {
  numbers = All-from_recursion NamesItsNodes rules (each (IsWritable schema.dim) NamesItsNodes (names_its_nodes schema.dim) rules (writable_from_text text version schema rules stands).each);
  exprs = All-from_recursion (HasNamedExprs schema) rules (each (HasGoodExprs schema) (HasNamedExprs schema) (has_named_exprs schema) rules (exprs_from_text text version schema rules stands));
}
