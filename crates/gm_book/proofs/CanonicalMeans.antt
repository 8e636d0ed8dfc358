-- The canonical form of a rule means the rule.
use Rattle.std.proofs.Common.{◌≡◌, ℕ, ◌+◌, ◌≤◌, true, false, List, [], ◌∷◌, map, Option, Some, None, inl, inr, ◌⊎◌, refl, sym, ap, subst, ◌∙◌}
use Rattle.std.specs.List.{AllByRecursion, AllZip}
use Rattle.std.specs.Str.{bytes_eq}
use Rattle.std.proofs.lemmas.Bool.{or_parts, cases_Bool}
use Rattle.std.proofs.lemmas.Slice.Eq.{bytes_eq-Decides}
use Rattle.gm_model.specs.declared.word.Letter.{Letter}
use Rattle.gm_model.specs.declared.rule.Link.{Link}
use Rattle.gm_model.specs.declared.rule.Side.TheVariants.{Right}
use Rattle.gm_model.specs.declared.schema.Embed.{Embed}
use Rattle.gm_model.specs.declared.schema.Schema.{Schema}
use Rattle.gm_model.specs.declared.value.Kind.{Kind}
use Rattle.gm_model.specs.Names.{is_among}
use Rattle.gm_model.specs.Rules.{Rule, RuleNode, Assignment}
use Rattle.gm_model.specs.Symbols.{Mark}
use Rattle.gm_model.specs.Trees.{Tree}
use Rattle.gm_expr.specs.ExprText.{embed_name}
use Rattle.gm_expr.proofs.Canonical.{behind}
use Rattle.gm_forms.specs.BookText.{Item, SetForm, sets_in, MeansTree, MeansSet, MeansPre, MeansRule}
use Rattle.gm_book.proofs.CanonicalForm.{NodeLine, behind_word, expr_at, value_at, set_at, behind_set, sets_at, behind_line, items_at, node_lines, line_before, tie, pre_at, right_marks, pre_marks, behind_rule, form_at, forms_at, node_names, AreNew, IsGoodValue, IsGoodSet, HasGoodSets, HasGoodExprs, IsWritable}
use Rattle.gm_book.proofs.CanonicalKnown.{known, params_known, nodes_known, names_numbered}
use Rattle.gm_book.proofs.CanonicalRule.{assigned, rule_same}
use Rattle.gm_book.proofs.CanonicalText.{good_names}
use Rattle.gm_book.proofs.CanonicalValues.{value_is, value_means}
use Rattle.gm_book.proofs.DifferentNames.{rest_differ}
use Rattle.gm_book.proofs.GoodEmbeds.{AreGoodEmbeds, embed_there}

module _ (schema : Schema) (low : schema.dim ≤ 7) (embeds : AreGoodEmbeds schema.embeds) where
  module _ (rule : Rule) (ok : IsWritable schema.dim rule) (exprs : HasGoodExprs schema rule) (marks : List Mark) where
    tree_means : (tree : Tree) (kind : Option Kind) (at : List Mark) → IsGoodValue schema rule tree kind → MeansTree schema.dim (known schema rule ok marks) (value_at schema rule at tree) tree
    tree_means tree kind at good =
        let names = good_names schema rule embeds.good ok in
        record {
          form = expr_at schema rule at tree;
          value = value_is schema rule names tree kind good at;
          means = sym (value_means schema rule names tree kind good at low (known schema rule ok marks) refl (params_known schema rule ok marks) (nodes_known schema rule ok marks));
        }

    set_means : (set : Assignment) (at : List Mark) → IsGoodSet schema rule set → MeansSet schema.dim (known schema rule ok marks) (set_at schema rule at set) set
    set_means set at good = record {
      embed = names_numbered (map (λ (embed : Embed). embed.name) schema.embeds) embeds.differ set.embed (embed_name schema.embeds set.embed) (embed_there schema.embeds set.embed good.embed);
      tree = tree_means set.tree _ (behind (behind (behind at))) good.value;
    }

    abbrev Mean : List SetForm → List Assignment → Type 0
    Mean sets assignments = AllZip (MeansSet schema.dim (known schema rule ok marks)) sets assignments

    sets_mean : (sets : List Assignment) (at : List Mark) → AllByRecursion (IsGoodSet schema rule) sets → Mean (sets_at schema rule at sets) sets
    sets_mean [] at good = tt
    sets_mean (set ∷ sets) at good = (set_means set at good.0, sets_mean sets (behind_set schema rule set at) good.1)

    pre_means : (pre : Option Tree) (at : List Mark) → rule.pre ≡ pre → MeansPre schema.dim (known schema rule ok marks) (pre_at schema rule at pre) pre
    pre_means None at is = refl
    pre_means (Some tree) at is = (tree, refl, tree_means tree _ (behind at) (exprs.pre tree is))

    -- ---- the assignments of a node

    module _ (nodes : List RuleNode) (links : List Link) where
      unset_in_ties : (links : List Link) (at : List Mark) (name : List ℕ) → sets_in (items_at schema rule at (map (tie nodes) links)) name ≡ []
      unset_in_ties [] at name = refl
      unset_in_ties (link ∷ links) at name = unset_in_ties links (behind_line schema rule (tie nodes link) at) name

      abbrev items_from : List Mark → ℕ → List RuleNode → List Item
      items_from at x others = items_at schema rule at (node_lines Right (λ y. false) x others (map (tie nodes) links))

      unset : (others : List RuleNode) (x : ℕ) (at : List Mark) (name : List ℕ) → is_among (node_names others) name ≡ false → sets_in (items_from at x others) name ≡ []
      unset [] x at name none = unset_in_ties links at name
      unset (node ∷ others) x at name none =
          let parts = or_parts (bytes_eq name node.name) (is_among (node_names others) name) none in
          go node.right parts.0 (λ at. unset others (x + 1) at name parts.1)
        where
          go : (word : Option (List Letter)) → bytes_eq name node.name ≡ false → ((at : List Mark) → sets_in (items_from at (x + 1) others) name ≡ [])
              → sets_in (items_at schema rule at (line_before node.name word false node.sets (node_lines Right (λ y. false) (x + 1) others (map (tie nodes) links)))) name ≡ []
          go None other rest = rest at
          go (Some word) other rest = rw other (rest (behind_line schema rule (NodeLine node.name word false node.sets) at))

      each_means : (seen : List (List ℕ)) (others : List RuleNode) (x : ℕ) (at : List Mark) (name : List ℕ) → AreNew seen (node_names others) → AllByRecursion (HasGoodSets schema rule) others
          → Mean (sets_in (items_from at x others) name) (assigned others name)
      each_means seen [] x at name new good = subst (λ sets. Mean sets []) (sym (unset_in_ties links at name)) tt
      each_means seen (node ∷ others) x at name new good = go node.right refl (cases_Bool (bytes_eq name node.name)) (λ at. each_means _ others (x + 1) at name new.1 good.1)
        where
          go : (word : Option (List Letter)) → node.right ≡ word → (bytes_eq name node.name ≡ true) ⊎ (bytes_eq name node.name ≡ false)
              → ((at : List Mark) → Mean (sets_in (items_from at (x + 1) others) name) (assigned others name))
              → Mean (sets_in (items_at schema rule at (line_before node.name word false node.sets (node_lines Right (λ y. false) (x + 1) others (map (tie nodes) links)))) name) (assigned (node ∷ others) name)
          go None is (inl same) rest =
              let e : name ≡ node.name = (bytes_eq-Decides name node.name).0 same in
              let none : is_among (node_names others) name ≡ false = ap (is_among (node_names others)) e ∙ rest_differ seen (node_names others) node.name new in
              let empty : assigned (node ∷ others) name ≡ [] = rw same (good.0.on_right is) in
              rw (empty, unset others (x + 1) at name none) tt
          go None is (inr other) rest = rw other (rest at)
          go (Some word) is (inl same) rest = rw same (sets_mean node.sets (behind_word word false at) good.0.each)
          go (Some word) is (inr other) rest = rw other (rest (behind_line schema rule (NodeLine node.name word false node.sets) at))

    rule_means : MeansRule schema.dim schema.embeds (form_at schema marks rule) rule
    rule_means = record {
      sets = assigned rule.nodes;
      pre = rule.pre;
      each = λ name among. each_means rule.nodes rule.right_links [] rule.nodes 0 (right_marks schema rule marks) name ok.differ exprs.sets;
      holds = pre_means rule.pre (pre_marks schema rule marks) refl;
      same = sym (rule_same schema rule ok marks);
    }

  pub rules_mean : (rules : List Rule) (marks : List Mark) → AllByRecursion (IsWritable schema.dim) rules → AllByRecursion (HasGoodExprs schema) rules → AllZip (MeansRule schema.dim schema.embeds) (forms_at schema marks rules) rules
  rules_mean [] marks ok exprs = tt
  rules_mean (rule ∷ rules) marks ok exprs = (rule_means rule ok.0 exprs.0 marks, rules_mean rules (behind_rule schema rule marks) ok.1 exprs.1)
