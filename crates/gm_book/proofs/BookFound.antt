-- What the rules of a book mean, where they have no fault of names.
use Rattle.std.proofs.Common.{◌≡◌, ℕ, Bool, true, false, cond, List, [], ◌∷◌, Option, Some, None, is_some, inl, inr, refl, ◌∙◌}
use Rattle.std.specs.List.{AllByRecursion, AllZip, Contains}
use Rattle.std.specs.Prelude.{IsTrue}
use Rattle.std.specs.Str.{bytes_eq}
use Rattle.std.proofs.lemmas.Bool.{cases_Bool}
use Rattle.gm_model.specs.declared.rule.Side.TheVariants.{Right}
use Rattle.gm_model.specs.declared.schema.Embed.{Embed}
use Rattle.gm_model.specs.Names.{is_among}
use Rattle.gm_model.specs.Rules.{Rule, Assignment}
use Rattle.gm_model.specs.Trees.{Tree}
use Rattle.gm_text.specs.SchemaText.{names_in}
use Rattle.gm_parse.specs.Meaning.{Names, embed_number, tree_in}
use Rattle.gm_forms.specs.BookText.{ExprToken, SetForm, Item, NodeItem, LinkItem, RuleForm, IsExpr, IsSet, IsItem, IsPre, IsRule, assignments_in, sets_in, names_for, rule_in, UnknownAt, SetUnknown, MeansTree, MeansSet, MeansPre, MeansRule}
use Rattle.gm_forms.proofs.Contained.{contains_here, contains_behind}
use Rattle.gm_book.specs.inner.Building.{HasNoFaultInRules}
use Rattle.gm_book.proofs.Among.{position_any}
use Rattle.gm_book.proofs.Checked.{sets_of_name}

-- ---- assignments

module _ (n : ℕ) (names : Names) where
  tree_meant : (tokens : List ExprToken) → IsExpr n tokens → (tree : Tree) × MeansTree n names tokens tree
  tree_meant tokens (form, value) = (tree_in names form, record { form = form; value = value; means = refl })

  abbrev IsKnown : SetForm → Type 0
  IsKnown set = IsTrue (is_some (embed_number names set.embed))

  set_meant : (set : SetForm) → IsExpr n set.value → IsKnown set → (assignment : Assignment) × MeansSet n names set assignment
  set_meant set expr known = go (embed_number names set.embed) refl known
    where
      go : (found : Option ℕ) → embed_number names set.embed ≡ found → IsTrue (is_some found) → (assignment : Assignment) × MeansSet n names set assignment
      go None e is = absurd (let no_way : false ≡ true = is in absurd cc)
      go (Some e) is there = let (tree, means) = tree_meant set.value expr in (record { embed = e; tree = tree }, record { embed = is; tree = means })

  sets_meant : (sets : List SetForm) → AllByRecursion (IsSet n) sets → ((set : SetForm) → Contains sets set → IsKnown set) → (assignments : List Assignment) × AllZip (MeansSet n names) sets assignments
  sets_meant [] good known = ([], tt)
  sets_meant (set ∷ sets) good known =
      let (first, means) = set_meant set good.0.1 (known set (contains_here set sets)) in
      let (others, mean) = sets_meant sets good.1 (λ other among. known other (contains_behind set sets other among)) in
      (first ∷ others, (means, mean))

  pre_meant : (pre : Option (List ExprToken)) → IsPre n pre → (meant : Option Tree) × MeansPre n names pre meant
  pre_meant None good = (None, refl)
  pre_meant (Some tokens) good = let (tree, means) = tree_meant tokens good in (Some tree, (tree, refl, means))

-- the assignments of a name are written as all are
sets_named : (n : ℕ) (items : List Item) (name : List ℕ) → AllByRecursion (IsItem n Right) items → AllByRecursion (IsSet n) (sets_in items name)
sets_named n [] name good = tt
sets_named n (NodeItem node word hook sets ∷ items) name good = go (bytes_eq name node.name) (sets_named n items name good.1)
  where
    go : (same : Bool) → AllByRecursion (IsSet n) (sets_in items name) → AllByRecursion (IsSet n) (cond same sets (sets_in items name))
    go true behind = good.0.2
    go false behind = behind
sets_named n (LinkItem from label to ∷ items) name good = sets_named n items name good.1

-- ---- rules

module _ (version n : ℕ) (embeds : List Embed) where
  embed_known : (rules : List RuleForm) (rule : RuleForm) → HasNoFaultInRules n embeds rules → Contains rules rule → (set : SetForm) → Contains (assignments_in rule.right) set → IsKnown n (names_for embeds rule) set
  embed_known rules rule sound there set among =
      elim (cases_Bool (is_among (names_in embeds) set.embed.name)) [
        | inl known ↦ position_any (bytes_eq set.embed.name) (names_in embeds) ∙ known
        | inr unknown ↦ absurd (sound (UnknownAt set.embed.place) (SetUnknown rule set there among unknown))
      ]

  rule_meant : (rules : List RuleForm) (rule : RuleForm) → HasNoFaultInRules n embeds rules → Contains rules rule → IsRule version n rule → (meant : Rule) × MeansRule n embeds rule meant
  rule_meant rules rule sound there good =
      let names = names_for embeds rule in
      let made = λ (name : List ℕ). sets_meant n names (sets_in rule.right name) (sets_named n rule.right name good.right) (λ set among. embed_known rules rule sound there set (sets_of_name rule.right name set among)) in
      let (pre, holds) = pre_meant n names rule.pre good.pre in
      (rule_in (λ name. (made name).0) pre rule, record { sets = λ name. (made name).0; pre = pre; each = λ name among. (made name).1; holds = holds; same = refl })

  all_meant : (rules forms : List RuleForm) → HasNoFaultInRules n embeds rules → ((rule : RuleForm) → Contains forms rule → Contains rules rule) → AllByRecursion (IsRule version n) forms → (meant : List Rule) × AllZip (MeansRule n embeds) forms meant
  all_meant rules [] sound within good = ([], tt)
  all_meant rules (form ∷ forms) sound within good =
      let (first, means) = rule_meant rules form sound (within form (contains_here form forms)) good.0 in
      let (others, mean) = all_meant rules forms sound (λ rule among. within rule (contains_behind form forms rule among)) good.1 in
      (first ∷ others, (means, mean))

  pub rules_meant : (rules : List RuleForm) → HasNoFaultInRules n embeds rules → AllByRecursion (IsRule version n) rules → (meant : List Rule) × AllZip (MeansRule n embeds) rules meant
  rules_meant rules sound good = all_meant rules rules sound (λ rule among. among) good
