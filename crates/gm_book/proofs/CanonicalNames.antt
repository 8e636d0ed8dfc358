-- The canonical form has no fault of names.
use Rattle.std.proofs.Common.{◌≡◌, ℕ, ◌+◌, ◌≤◌, Bool, true, false, List, [], ◌∷◌, ◌++◌, take, drop, map, Option, Some, None, is_some, refl, sym, ap, subst, ◌∙◌}
use Rattle.std.specs.Prelude.{slice_get}
use Rattle.std.specs.List.{AllByRecursion, Contains}
use Rattle.gm_model.specs.declared.word.Letter.{Letter}
use Rattle.gm_model.specs.declared.rule.Link.{Link}
use Rattle.gm_model.specs.declared.rule.Param.{Param}
use Rattle.gm_model.specs.declared.rule.Side.{Side}
use Rattle.gm_model.specs.declared.rule.Side.TheVariants.{Left, Right}
use Rattle.gm_model.specs.declared.schema.Schema.{Schema}
use Rattle.gm_model.specs.Symbols.{Mark}
use Rattle.gm_model.specs.Rules.{Rule, RuleNode, has_word, word_on, links_on, name_at}
use Rattle.gm_model.specs.Names.{Mention, is_among}
use Rattle.gm_expr.proofs.Canonical.{behind}
use Rattle.gm_forms.specs.BookText.{ParamForm, RuleForm, names_of, params_in, nodes_in, ends_in, items_on, IsAgain, IsStranger, NameFault, IsFaultInRules, RuleTwice, ParamTwice, NodeTwice, NodeUnknown, SetTwice, SetUnknown, ValueFault, SetKind, PreKind}
use Rattle.gm_book.proofs.CanonicalFaults.{HasNoExprFault, all_exprs_faultless, contained}
use Rattle.gm_book.proofs.CanonicalForm.{NodeLine, behind_line, node_lines, line_before, sets_on, tie, hook_on, items_at, lines_of, params_at, behind_param, param_names, left_marks, right_marks, behind_rule, form_at, forms_at, AreNew, node_names, IsGoodLink, IsWritable, HasGoodExprs}
use Rattle.gm_book.proofs.GoodEmbeds.{AreGoodEmbeds}
use Rattle.gm_book.proofs.CanonicalRule.{names_on, name_before, on_append, side_names}
use Rattle.gm_book.proofs.DifferentNames.{among_last, among_neither, fewer_seen, no_again, not_both, split_there}

on_new : (side : Side) (seen : List (List ℕ)) (nodes : List RuleNode) → AreNew seen (node_names nodes) → AreNew seen (names_on side nodes)
on_new side seen [] new = tt
on_new side seen (node ∷ nodes) new = go (word_on side node) (on_new side (seen ++ node.name ∷ []) nodes new.1)
  where
    go : (word : Option (List Letter)) → AreNew (seen ++ node.name ∷ []) (names_on side nodes) → AreNew seen (name_before node.name word (names_on side nodes))
    go None later = fewer_seen (seen ++ node.name ∷ []) seen (names_on side nodes) (λ name none. (among_neither seen (node.name ∷ []) name none).0) later
    go (Some word) later = (new.0, later)

-- ---- ends of links are nodes

named_on : (rule : Rule) (side : Side) (x : ℕ) → has_word rule side x ≡ true → is_among (names_on side rule.nodes) (name_at rule.nodes x) ≡ true
named_on rule side x has = go (slice_get rule.nodes x) refl
  where
    behind_node : (name : List ℕ) (word : Option (List Letter)) (front rest : List (List ℕ)) → is_some word ≡ true → is_among (front ++ name_before name word rest) name ≡ true
    behind_node name None front rest is = absurd cc
    behind_node name (Some word) front rest is = among_last front rest name

    go : (found : Option RuleNode) → slice_get rule.nodes x ≡ found → is_among (names_on side rule.nodes) (name_at rule.nodes x) ≡ true
    go None is = absurd (let none : has_word rule side x ≡ false = rw is refl in cc)
    go (Some node) is =
        let word : is_some (word_on side node) ≡ true = subst (λ (b : Bool). b ≡ true) (let same : has_word rule side x ≡ is_some (word_on side node) = rw is refl in same) has in
        let split : names_on side (take x rule.nodes) ++ name_before node.name (word_on side node) (names_on side (drop (x + 1) rule.nodes)) ≡ names_on side rule.nodes =
        sym (on_append side (take x rule.nodes) (node ∷ drop (x + 1) rule.nodes)) ∙ ap (names_on side) (split_there rule.nodes x node is) in
        rw is (ap (λ names. is_among names node.name) (sym split) ∙ behind_node node.name (word_on side node) (names_on side (take x rule.nodes)) (names_on side (drop (x + 1) rule.nodes)) word)

module _ (schema : Schema) (rule : Rule) (side : Side) (hook : ℕ → Bool) where
  abbrev IsKnown : Mention → Type 0
  IsKnown mention = is_among (names_on side rule.nodes) mention.name ≡ true

  ties_known : (links : List Link) (marks : List Mark) → AllByRecursion (IsGoodLink schema.dim rule side) links → AllByRecursion IsKnown (ends_in (items_at schema rule marks (map (tie rule.nodes) links)))
  ties_known [] marks good = tt
  ties_known (link ∷ links) marks good =
      (named_on rule side link.from good.0.from, (named_on rule side link.to good.0.to, ties_known links (behind_line schema rule (tie rule.nodes link) marks) good.1))

  ends_known : (x : ℕ) (nodes : List RuleNode) (links : List Link) (marks : List Mark) → AllByRecursion (IsGoodLink schema.dim rule side) links → AllByRecursion IsKnown (ends_in (items_at schema rule marks (node_lines side hook x nodes (map (tie rule.nodes) links))))
  ends_known x [] links marks good = ties_known links marks good
  ends_known x (node ∷ nodes) links marks good = go (word_on side node) (λ marks. ends_known (x + 1) nodes links marks good)
    where
      go : (word : Option (List Letter)) → ((marks : List Mark) → AllByRecursion IsKnown (ends_in (items_at schema rule marks (node_lines side hook (x + 1) nodes (map (tie rule.nodes) links)))))
          → AllByRecursion IsKnown (ends_in (items_at schema rule marks (line_before node.name word (hook x) (sets_on side node) (node_lines side hook (x + 1) nodes (map (tie rule.nodes) links)))))
      go None later = later marks
      go (Some word) later = later (behind_line schema rule (NodeLine node.name word (hook x) (sets_on side node)) marks)

-- ---- so no rule has a fault

pub record HasNoFault (form : RuleForm) : Type 0 where
  pub param_twice : (place : ℕ) → IsAgain (params_in form) place → ⊥
  pub twice : (side : Side) (place : ℕ) → IsAgain (nodes_in (items_on form side)) place → ⊥
  pub stranger : (side : Side) (place : ℕ) → IsStranger (items_on form side) place → ⊥

named_params : (params : List Param) (marks : List Mark) → names_of (map (λ (param : ParamForm). param.name) (params_at marks params)) ≡ param_names params
named_params [] marks = refl
named_params (param ∷ params) marks = ap (λ names. param.name ∷ names) (named_params params (behind_param marks))

module _ (schema : Schema) where
  items_twice : (rule : Rule) (side : Side) (marks : List Mark) (place : ℕ) → IsWritable schema.dim rule → IsAgain (nodes_in (items_at schema rule marks (lines_of rule side))) place → ⊥
  items_twice rule side marks place ok again =
      no_again (nodes_in (items_at schema rule marks (lines_of rule side))) place (subst (AreNew []) (sym (side_names schema rule ok side marks)) (on_new side [] rule.nodes ok.differ)) again

  items_stranger : (rule : Rule) (side : Side) (marks : List Mark) (place : ℕ) → IsWritable schema.dim rule → IsStranger (items_at schema rule marks (lines_of rule side)) place → ⊥
  items_stranger rule side marks place ok stranger =
      let known = contained (IsKnown schema rule side (hook_on rule side)) (ends_in (items_at schema rule marks (lines_of rule side))) stranger.mention (ends_known schema rule side (hook_on rule side) 0 rule.nodes (links_on rule side) marks (ok.links side)) stranger.among in
      not_both (is_among (names_on side rule.nodes) stranger.mention.name) known (ap (λ names. is_among names stranger.mention.name) (sym (side_names schema rule ok side marks)) ∙ stranger.stranger)

  form_faultless : (rule : Rule) (marks : List Mark) → IsWritable schema.dim rule → HasNoFault (form_at schema marks rule)
  form_faultless rule marks ok = record {
    param_twice = λ place again. no_again _ place (subst (AreNew []) (sym (named_params rule.params (behind (behind marks)))) ok.params_differ) again;
    twice = twice;
    stranger = stranger;
  }
    where
      twice : (side : Side) (place : ℕ) → IsAgain (nodes_in (items_on (form_at schema marks rule) side)) place → ⊥
      twice Left place again = items_twice rule Left (left_marks rule marks) place ok again
      twice Right place again = items_twice rule Right (right_marks schema rule marks) place ok again

      stranger : (side : Side) (place : ℕ) → IsStranger (items_on (form_at schema marks rule) side) place → ⊥
      stranger Left place found = items_stranger rule Left (left_marks rule marks) place ok found
      stranger Right place found = items_stranger rule Right (right_marks schema rule marks) place ok found

  forms_faultless : (rules : List Rule) (marks : List Mark) → AllByRecursion (IsWritable schema.dim) rules → AllByRecursion HasNoFault (forms_at schema marks rules)
  forms_faultless [] marks ok = tt
  forms_faultless (rule ∷ rules) marks ok = (form_faultless rule marks ok.0, forms_faultless rules (behind_rule schema rule marks) ok.1)

abbrev pub rule_names : List Rule → List (List ℕ)
rule_names rules = map (λ (rule : Rule). rule.name) rules

form_names : (schema : Schema) (rules : List Rule) (marks : List Mark) → names_of (map (λ (form : RuleForm). form.name) (forms_at schema marks rules)) ≡ rule_names rules
form_names schema [] marks = refl
form_names schema (rule ∷ rules) marks = ap (λ names. rule.name ∷ names) (form_names schema rules (behind_rule schema rule marks))

module _ (schema : Schema) (low : schema.dim ≤ 7) (embeds : AreGoodEmbeds schema.embeds) (rules : List Rule) (marks : List Mark) (ok : AllByRecursion (IsWritable schema.dim) rules) (exprs : AllByRecursion (HasGoodExprs schema) rules) (differ : AreNew [] (rule_names rules)) where
  plain : (form : RuleForm) → Contains (forms_at schema marks rules) form → HasNoFault form
  plain form has = contained HasNoFault _ form (forms_faultless schema rules marks ok) has

  in_exprs : (form : RuleForm) → Contains (forms_at schema marks rules) form → HasNoExprFault schema.dim schema.embeds form
  in_exprs form has = contained (HasNoExprFault schema.dim schema.embeds) _ form (all_exprs_faultless schema low embeds rules marks ok exprs) has

  pub rules_faultless : (fault : NameFault) → IsFaultInRules schema.dim schema.embeds (forms_at schema marks rules) fault → ⊥
  rules_faultless _ (RuleTwice place again) = no_again _ place (subst (AreNew []) (sym (form_names schema rules marks)) differ) again
  rules_faultless _ (ParamTwice form place has again) = (plain form has).param_twice place again
  rules_faultless _ (NodeTwice form side place has again) = (plain form has).twice side place again
  rules_faultless _ (NodeUnknown form side place has stranger) = (plain form has).stranger side place stranger
  rules_faultless _ (SetTwice form sets place has among again) = (in_exprs form has).set_twice sets place among again
  rules_faultless _ (SetUnknown form set has among unknown) = (in_exprs form has).set_unknown set among unknown
  rules_faultless _ (ValueFault form tokens expr fault has among value there) = (in_exprs form has).value tokens expr fault among value there
  rules_faultless _ (SetKind form set kind has among needed other) = (in_exprs form has).set_kind set kind among needed other
  rules_faultless _ (PreKind form tokens has is other) = (in_exprs form has).pre_kind tokens is other
