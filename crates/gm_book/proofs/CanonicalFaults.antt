-- The expressions of a canonical form have no fault of names or kinds.
use Rattle.std.proofs.Common.{◌≡◌, ℕ, ◌+◌, true, false, List, [], ◌∷◌, ◌++◌, map, Option, Some, None, refl, sym, ap, subst, ◌∙◌, ◌≤◌}
use Rattle.std.specs.Prelude.{slice_get}
use Rattle.std.specs.List.{flat_map, AllByRecursion, Contains}
use Rattle.std.specs.Option.{option_map, option_and_then}
use Rattle.std.proofs.lemmas.List.Elements.{All-from_recursion}
use Rattle.gm_model.specs.declared.word.Letter.{Letter}
use Rattle.gm_model.specs.declared.rule.Link.{Link}
use Rattle.gm_model.specs.declared.rule.Side.TheVariants.{Right}
use Rattle.gm_model.specs.declared.schema.Embed.{Embed}
use Rattle.gm_model.specs.declared.schema.Schema.{Schema}
use Rattle.gm_model.specs.declared.value.Kind.{Kind}
use Rattle.gm_model.specs.declared.value.Kind.TheVariants.{Bool as Truth}
use Rattle.gm_model.specs.Kinds.{embed_kind, param_kinds, tree_kind}
use Rattle.gm_model.specs.Names.{is_among}
use Rattle.gm_model.specs.Rules.{Rule, RuleNode, Assignment}
use Rattle.gm_model.specs.Symbols.{Mark}
use Rattle.gm_model.specs.Trees.{Tree}
use Rattle.gm_text.specs.SchemaText.{names_in}
use Rattle.gm_parse.specs.Forms.{Form}
use Rattle.gm_parse.specs.Meaning as meaning
use Rattle.gm_parse.specs.Meaning.{faults_in, tree_in}
use Rattle.gm_expr.specs.ExprText.{embed_name}
use Rattle.gm_expr.proofs.Canonical.{behind}
use Rattle.gm_forms.specs.BookText.{SetForm, ExprToken, RuleForm, sets_of, assignments_in, embeds_in, names_of, names_for, param_of, kind_of_embed, IsAgain, IsValue, IsValueIn, SetValue, PreValue, HasOtherKind}
use Rattle.gm_forms.proofs.Contained.{contains_none}
use Rattle.gm_book.proofs.CanonicalForm.{NodeLine, behind_word, value_at, set_at, behind_set, sets_at, behind_line, items_at, node_lines, line_before, tie, pre_at, right_marks, pre_marks, behind_rule, form_at, forms_at, set_names, AreNew, IsGoodValue, IsGoodSet, HasGoodSets, HasGoodExprs, IsWritable}
use Rattle.gm_book.proofs.CanonicalKnown.{known, params_known, nodes_known, names_numbered}
use Rattle.gm_book.proofs.GoodEmbeds.{AreGoodEmbeds, embed_there}
use Rattle.gm_book.proofs.CanonicalRule.{params_same}
use Rattle.gm_book.proofs.CanonicalText.{good_names}
use Rattle.gm_book.proofs.CanonicalValues.{value_known, value_tree}
use Rattle.gm_book.proofs.DifferentNames.{among_last, no_again, not_both, split_there}

-- no fault of the rule's assignments and its precondition
pub record HasNoExprFault (n : ℕ) (embeds : List Embed) (form : RuleForm) : Type 0 where
  pub set_twice : (sets : List SetForm) (place : ℕ) → Contains (sets_of form.right) sets → IsAgain (embeds_in sets) place → ⊥
  pub set_unknown : (set : SetForm) → Contains (assignments_in form.right) set → is_among (names_in embeds) set.embed.name ≡ false → ⊥
  pub value : (tokens : List ExprToken) (expr : Form) (fault : meaning.NameFault) → IsValueIn form tokens → IsValue n tokens expr → Contains (faults_in (names_for embeds form) expr) fault → ⊥
  pub set_kind : (set : SetForm) (kind : Kind) → Contains (assignments_in form.right) set → kind_of_embed embeds set.embed.name ≡ Some kind → HasOtherKind n embeds form set.value kind → ⊥
  pub pre_kind : (tokens : List ExprToken) → form.pre ≡ Some tokens → HasOtherKind n embeds form tokens Truth → ⊥

-- ---- what is among lists

pub contained : {X : Type 0} (P : X → Type 0) (xs : List X) (x : X) → AllByRecursion P xs → Contains xs x → P x
contained P xs x all has = subst P has.2 (All-from_recursion P xs all has.0 x has.1)

all_append : {X : Type 0} (P : X → Type 0) (xs ys : List X) → AllByRecursion P xs → AllByRecursion P ys → AllByRecursion P (xs ++ ys)
all_append P [] ys first last = last
all_append P (x ∷ xs) ys first last = (first.0, all_append P xs ys first.1 last)

pub all_flat : {X : Type 0} (P : X → Type 0) (lists : List (List X)) → AllByRecursion (AllByRecursion P) lists → AllByRecursion P (flat_map (λ (xs : List X). xs) lists)
all_flat P [] all = tt
all_flat P (xs ∷ lists) all = all_append P xs (flat_map (λ (others : List _). others) lists) all.0 (all_flat P lists all.1)

there_among : (names : List (List ℕ)) (k : ℕ) (name : List ℕ) → slice_get names k ≡ Some name → is_among names name ≡ true
there_among names k name here = ap (λ all. is_among all name) (sym (split_there names k name here)) ∙ among_last _ _ name

-- ---- the assignments of the form

module _ (schema : Schema) (rule : Rule) where
  record IsSetAt (form : SetForm) : Type 0 where
    set : Assignment
    at : List Mark
    is : form ≡ set_at schema rule at set
    good : IsGoodSet schema rule set

  record AreSetsAt (forms : List SetForm) : Type 0 where
    sets : List Assignment
    at : List Mark
    is : forms ≡ sets_at schema rule at sets
    each : AllByRecursion (IsGoodSet schema rule) sets
    differ : AreNew [] (set_names schema sets)

  each_at : (sets : List Assignment) (at : List Mark) → AllByRecursion (IsGoodSet schema rule) sets → AllByRecursion IsSetAt (sets_at schema rule at sets)
  each_at [] at good = tt
  each_at (set ∷ sets) at good = (record { set = set; at = at; is = refl; good = good.0 }, each_at sets (behind_set schema rule set at) good.1)

  embeds_at : (sets : List Assignment) (at : List Mark) → names_of (embeds_in (sets_at schema rule at sets)) ≡ set_names schema sets
  embeds_at [] at = refl
  embeds_at (set ∷ sets) at = ap (λ names. embed_name schema.embeds set.embed ∷ names) (embeds_at sets (behind_set schema rule set at))

  unset_ties : (links : List Link) (at : List Mark) → AllByRecursion AreSetsAt (sets_of (items_at schema rule at (map (tie rule.nodes) links)))
  unset_ties [] at = tt
  unset_ties (link ∷ links) at = unset_ties links (behind_line schema rule (tie rule.nodes link) at)

  sets_on_nodes : (nodes : List RuleNode) (x : ℕ) (at : List Mark) → AllByRecursion (HasGoodSets schema rule) nodes → AllByRecursion AreSetsAt (sets_of (items_at schema rule at (node_lines Right (λ y. false) x nodes (map (tie rule.nodes) rule.right_links))))
  sets_on_nodes [] x at good = unset_ties rule.right_links at
  sets_on_nodes (node ∷ nodes) x at good = go node.right (λ at. sets_on_nodes nodes (x + 1) at good.1)
    where
      go : (word : Option (List Letter)) → ((at : List Mark) → AllByRecursion AreSetsAt (sets_of (items_at schema rule at (node_lines Right (λ y. false) (x + 1) nodes (map (tie rule.nodes) rule.right_links)))))
          → AllByRecursion AreSetsAt (sets_of (items_at schema rule at (line_before node.name word false node.sets (node_lines Right (λ y. false) (x + 1) nodes (map (tie rule.nodes) rule.right_links)))))
      go None rest = rest at
      go (Some word) rest = (record { sets = node.sets; at = behind_word word false at; is = refl; each = good.0.each; differ = good.0.differ }, rest (behind_line schema rule (NodeLine node.name word false node.sets) at))

  each_of : (lists : List (List SetForm)) → AllByRecursion AreSetsAt lists → AllByRecursion (AllByRecursion IsSetAt) lists
  each_of [] all = tt
  each_of (forms ∷ lists) all = (subst (AllByRecursion IsSetAt) (sym all.0.is) (each_at all.0.sets all.0.at all.0.each), each_of lists all.1)

-- ---- no fault

module _ (schema : Schema) (low : schema.dim ≤ 7) (embeds : AreGoodEmbeds schema.embeds) where
  module _ (rule : Rule) (ok : IsWritable schema.dim rule) (exprs : HasGoodExprs schema rule) (marks : List Mark) where
    all_sets : AllByRecursion (AreSetsAt schema rule) (sets_of (form_at schema marks rule).right)
    all_sets = sets_on_nodes schema rule rule.nodes 0 (right_marks schema rule marks) exprs.sets

    each_set : AllByRecursion (IsSetAt schema rule) (assignments_in (form_at schema marks rule).right)
    each_set = all_flat (IsSetAt schema rule) (sets_of (form_at schema marks rule).right) (each_of schema rule (sets_of (form_at schema marks rule).right) all_sets)

    no_fault : (tree : Tree) (kind : Option Kind) (at : List Mark) → IsGoodValue schema rule tree kind → (tokens : List ExprToken) (expr : Form) (fault : meaning.NameFault) → tokens ≡ value_at schema rule at tree → IsValue schema.dim tokens expr
        → Contains (faults_in (known schema rule ok marks) expr) fault → ⊥
    no_fault tree kind at good tokens expr fault is value has =
        let names = good_names schema rule embeds.good ok in
        let none = value_known schema rule names tree kind good at low (known schema rule ok marks) refl (params_known schema rule ok marks) (nodes_known schema rule ok marks)
        expr (subst (λ ts. IsValue schema.dim ts expr) is value) in
        contains_none fault (subst (λ faults. Contains faults fault) none has)

    no_other : (tree : Tree) (kind : Kind) (at : List Mark) → IsGoodValue schema rule tree (Some kind) → (tokens : List ExprToken) → tokens ≡ value_at schema rule at tree → HasOtherKind schema.dim schema.embeds (form_at schema marks rule) tokens kind → ⊥
    no_other tree kind at good tokens is other =
        let names = good_names schema rule embeds.good ok in
        let same = value_tree schema rule names tree (Some kind) good at low (known schema rule ok marks) refl (params_known schema rule ok marks) (nodes_known schema rule ok marks)
        other.form (subst (λ ts. IsValue schema.dim ts other.form) is other.value) in
        other.other (ap (tree_kind schema.embeds (param_kinds (map param_of (form_at schema marks rule).params))) same
        ∙ ap (λ ps. tree_kind schema.embeds (param_kinds ps) tree) (params_same rule.params (behind (behind marks))) ∙ good.kind_is)

    values_faultless : (tokens : List ExprToken) (expr : Form) (fault : meaning.NameFault) → IsValueIn (form_at schema marks rule) tokens → IsValue schema.dim tokens expr → Contains (faults_in (known schema rule ok marks) expr) fault → ⊥
    values_faultless tokens expr fault (SetValue form among same) value has =
        let set = contained (IsSetAt schema rule) _ form each_set among in
        no_fault set.set.tree _ (behind (behind (behind set.at))) set.good.value tokens expr fault (sym same ∙ ap (λ (f : SetForm). f.value) set.is) value has
    values_faultless tokens expr fault (PreValue is) value has = go rule.pre refl is
      where
        go : (pre : Option Tree) → rule.pre ≡ pre → pre_at schema rule (pre_marks schema rule marks) pre ≡ Some tokens → ⊥
        go None here is = absurd cc
        go (Some tree) here is =
            let same : value_at schema rule (behind (pre_marks schema rule marks)) tree ≡ tokens = cc is in
            no_fault tree _ (behind (pre_marks schema rule marks)) (exprs.pre tree here) tokens expr fault (sym same) value has

    pre_has_kind : (tokens : List ExprToken) → pre_at schema rule (pre_marks schema rule marks) rule.pre ≡ Some tokens → HasOtherKind schema.dim schema.embeds (form_at schema marks rule) tokens Truth → ⊥
    pre_has_kind tokens is other = go rule.pre refl is
      where
        go : (pre : Option Tree) → rule.pre ≡ pre → pre_at schema rule (pre_marks schema rule marks) pre ≡ Some tokens → ⊥
        go None here is = absurd cc
        go (Some tree) here is =
            let same : value_at schema rule (behind (pre_marks schema rule marks)) tree ≡ tokens = cc is in
            no_other tree Truth (behind (pre_marks schema rule marks)) (exprs.pre tree here) tokens (sym same) other

    -- the kind of an embedding by its name is that by its number
    kind_named : (e : ℕ) → slice_get (names_in schema.embeds) e ≡ Some (embed_name schema.embeds e) → kind_of_embed schema.embeds (embed_name schema.embeds e) ≡ embed_kind schema.embeds (param_kinds rule.params) e
    kind_named e here =
        ap (option_and_then (λ k. option_map (λ (embed : Embed). embed.kind) (slice_get schema.embeds k))) (names_numbered (names_in schema.embeds) embeds.differ e (embed_name schema.embeds e) here)

    sets_have_kind : (form : SetForm) (kind : Kind) → Contains (assignments_in (form_at schema marks rule).right) form → kind_of_embed schema.embeds form.embed.name ≡ Some kind → HasOtherKind schema.dim schema.embeds (form_at schema marks rule) form.value kind → ⊥
    sets_have_kind form kind among needed other =
        let set = contained (IsSetAt schema rule) _ form each_set among in
        let here = embed_there schema.embeds set.set.embed set.good.embed in
        let is : embed_kind schema.embeds (param_kinds rule.params) set.set.embed ≡ Some kind =
        sym (kind_named set.set.embed here) ∙ ap (λ (f : SetForm). kind_of_embed schema.embeds f.embed.name) (sym set.is) ∙ needed in
        no_other set.set.tree kind (behind (behind (behind set.at))) (subst (IsGoodValue schema rule set.set.tree) is set.good.value) form.value (ap (λ (f : SetForm). f.value) set.is) other

    pub exprs_faultless : HasNoExprFault schema.dim schema.embeds (form_at schema marks rule)
    exprs_faultless = record {
      set_twice = λ forms place among again.
          let sets = contained (AreSetsAt schema rule) _ forms all_sets among in
          let names : names_of (embeds_in forms) ≡ set_names schema sets.sets = ap (λ fs. names_of (embeds_in fs)) sets.is ∙ embeds_at schema rule sets.sets sets.at in
          no_again (embeds_in forms) place (subst (AreNew []) (sym names) sets.differ) again;
      set_unknown = λ form among unknown.
          let set = contained (IsSetAt schema rule) _ form each_set among in
          let there = there_among (names_in schema.embeds) set.set.embed (embed_name schema.embeds set.set.embed) (embed_there schema.embeds set.set.embed set.good.embed) in
          not_both (is_among (names_in schema.embeds) form.embed.name) (ap (λ (f : SetForm). is_among (names_in schema.embeds) f.embed.name) set.is ∙ there) unknown;
      value = values_faultless;
      set_kind = sets_have_kind;
      pre_kind = pre_has_kind;
    }

  pub all_exprs_faultless : (rules : List Rule) (marks : List Mark) → AllByRecursion (IsWritable schema.dim) rules → AllByRecursion (HasGoodExprs schema) rules → AllByRecursion (HasNoExprFault schema.dim schema.embeds) (forms_at schema marks rules)
  all_exprs_faultless [] marks ok exprs = tt
  all_exprs_faultless (rule ∷ rules) marks ok exprs = (exprs_faultless rule ok.0 exprs.0 marks, all_exprs_faultless rules (behind_rule schema rule marks) ok.1 exprs.1)
