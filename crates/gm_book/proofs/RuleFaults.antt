-- The least fault of a rule and of rules: of their names, and of their expressions.
use Rattle.std.proofs.Common.{◌≡◌, ℕ, ◌⊎◌, true, false, inl, inr, List, [], ◌∷◌, map, Option, Some, None, refl, sym, ap, subst, ◌∙◌}
use Rattle.std.proofs.lemmas.List.Elements.{Contains-append_left, Contains-append_right, Contains-append_cases}
use Rattle.std.specs.List.{Contains, flat_map}
use Rattle.gm_model.specs.declared.rule.Param.{Param}
use Rattle.gm_model.specs.declared.rule.Side.{Side}
use Rattle.gm_model.specs.declared.rule.Side.TheVariants.{Left, Right}
use Rattle.gm_model.specs.declared.schema.Embed.{Embed}
use Rattle.gm_model.specs.declared.value.Kind.TheVariants.{Bool as Truth}
use Rattle.gm_model.specs.Names.{Mention}
use Rattle.gm_text.specs.SchemaText.{names_in}
use Rattle.gm_parse.specs.Meaning as meaning
use Rattle.gm_parse.specs.Meaning.{Names}
use Rattle.gm_forms.specs.BookText.{ExprToken, SetForm, Item, RuleForm, with_name, params_in, embeds_in, sets_of, assignments_in, nodes_in, items_on, names_for, param_of, kind_of_embed, fault_in_value, first_place, IsAgain, IsStranger, IsValueIn, SetValue, PreValue, IsFaultInRules, RuleTwice, ParamTwice, NodeTwice, NodeUnknown, SetTwice, SetUnknown, ValueFault, SetKind, PreKind}
use Rattle.gm_forms.specs.BookText as text
use Rattle.gm_book.specs.declared.names.NameFault.{NameFault}
use Rattle.gm_book.specs.declared.names.NameFault.TheVariants.{Twice, Unknown, WrongKind}
use Rattle.gm_book.specs.inner.FirstNameFault.{fault_of, IsLeast, IsLeastFault, least_of, again_at, with_items, rule_least, IsAgainBehind, IsFaultOfExpr, IsPreFault, IsFaultOfValues, IsFaultInRule, IsRuleFault, IsFaultBehind}
use Rattle.gm_book.proofs.Among.{among_items}
use Rattle.gm_book.proofs.LeastFault.{least_joined, least_same, AgainFirst, again_first, again_none, again_cases, again_here, again_later, UnknownIn, SideFault, NamesFault, rule_is_least}
use Rattle.gm_forms.proofs.Contained.{contains_cases, contains_here, contains_behind, contains_none}

-- ---- the assignments of a side

abbrev all_sets : List (List SetForm) → List SetForm
all_sets nodes = flat_map (λ (sets : List SetForm). sets) nodes

-- one of a node's assignments is one of the side's
assigned_in : (nodes : List (List SetForm)) (sets : List SetForm) (set : SetForm) → Contains nodes sets → Contains sets set → Contains (all_sets nodes) set
assigned_in [] sets set of among = absurd (contains_none sets of)
assigned_in (first ∷ nodes) sets set of among = elim (contains_cases first nodes sets of) [
  | inl e ↦ Contains-append_left first (all_sets nodes) set (subst (λ (ss : List SetForm). Contains ss set) (sym e) among)
  | inr behind ↦ Contains-append_right first (all_sets nodes) set (assigned_in nodes sets set behind among)
]

pub node_of_set : (nodes : List (List SetForm)) (set : SetForm) → Contains (all_sets nodes) set → (sets : List SetForm) × Contains nodes sets × Contains sets set
node_of_set [] set among = absurd (contains_none set among)
node_of_set (first ∷ nodes) set among = elim (Contains-append_cases first (all_sets nodes) set among) [
  | inl here ↦ (first, contains_here first nodes, here)
  | inr behind ↦ (let (sets, of, there) = node_of_set nodes set behind in (sets, contains_behind first nodes sets of, there))
]

-- ---- faults by their names and places

again_of : (mentions : List Mention) (f : NameFault) → IsAgainBehind [] mentions f → (place : ℕ) × IsAgain mentions place × (Twice place ≡ f)
again_of mentions f (front, m, behind, split, here, again) = (m.place, record { front = front; mention = m; behind = behind; split = split; here = refl; again = again }, here)

same_fault : (f : NameFault) (place : ℕ) → text.TwiceAt place ≡ fault_of f → Twice place ≡ f
same_fault (Twice p) place e = ap Twice (ap text.place_of e)
same_fault (Unknown p) place e = absurd cc
same_fault (WrongKind p) place e = absurd cc

unknown_fault : (f : NameFault) (place : ℕ) → text.UnknownAt place ≡ fault_of f → Unknown place ≡ f
unknown_fault (Twice p) place e = absurd cc
unknown_fault (Unknown p) place e = ap Unknown (ap text.place_of e)
unknown_fault (WrongKind p) place e = absurd cc

kind_fault : (f : NameFault) (place : ℕ) → text.WrongKindAt place ≡ fault_of f → f ≡ WrongKind place
kind_fault (Twice p) place e = absurd cc
kind_fault (Unknown p) place e = absurd cc
kind_fault (WrongKind p) place e = ap WrongKind (ap text.place_of (sym e))

pub again_from : (mentions : List Mention) (place : ℕ) (f : NameFault) → IsAgain mentions place → text.TwiceAt place ≡ fault_of f → IsAgainBehind [] mentions f
again_from mentions place f h e = (h.front, h.mention, h.behind, h.split, ap Twice h.here ∙ same_fault f place e, h.again)

unknown_from : (items : List Item) (place : ℕ) (f : NameFault) → IsStranger items place → text.UnknownAt place ≡ fault_of f → UnknownIn (with_items [] items) (text.ends_in items) f
unknown_from items place f h e = (h.mention, h.among, (ap Unknown h.here ∙ unknown_fault f place e, among_items items [] h.mention.name ∙ h.stranger))

abbrev rule_names : List RuleForm → List Mention
rule_names rules = map (λ (rule : RuleForm). rule.name) rules

-- ---- faults of rules are those of their parts

module _ (n : ℕ) (embeds : List Embed) where
  abbrev FaultOfRule : RuleForm → NameFault → Type 0
  FaultOfRule rule fault = NamesFault (names_in embeds) rule fault ⊎ IsFaultOfValues n embeds rule fault

  abbrev FaultIn : List RuleForm → NameFault → Type 0
  FaultIn rules fault = (rule : RuleForm) × Contains rules rule × FaultOfRule rule fault

  abbrev FaultAmong : List RuleForm → NameFault → Type 0
  FaultAmong rules fault = IsAgainBehind [] (rule_names rules) fault ⊎ FaultIn rules fault

  abbrev params_of : RuleForm → List Param
  params_of rule = map param_of rule.params

  side_in : (rule : RuleForm) (side : Side) (f : NameFault) → SideFault (items_on rule side) f → FaultOfRule rule f
  side_in rule Left f h = inl (inr (inr (inl h)))
  side_in rule Right f h = inl (inr (inr (inr h)))

  value_in : (rule : RuleForm) (tokens : List ExprToken) (f : NameFault) → IsValueIn rule tokens → IsFaultOfExpr n (names_for embeds rule) tokens f → IsFaultOfValues n embeds rule f
  value_in rule tokens f (SetValue set among is) h = inl (set, among, inl (subst (λ (ts : List ExprToken). IsFaultOfExpr n (names_for embeds rule) ts f) (sym is) h))
  value_in rule tokens f (PreValue is) h = inr (subst (λ (pre : Option (List ExprToken)). IsPreFault n embeds (params_of rule) (names_for embeds rule) pre f) (sym is) (inl h))

  module _ (rules : List RuleForm) where
    parts_from : (g : text.NameFault) → IsFaultInRules n embeds rules g → (f : NameFault) → g ≡ fault_of f → FaultAmong rules f
    parts_from _ (RuleTwice place again) f e = inl (again_from (rule_names rules) place f again e)
    parts_from _ (ParamTwice rule place among again) f e = inr (rule, among, inl (inl (again_from (params_in rule) place f again e)))
    parts_from _ (NodeTwice rule side place among again) f e = inr (rule, among, side_in rule side f (inl (again_from (nodes_in (items_on rule side)) place f again e)))
    parts_from _ (NodeUnknown rule side place among stranger) f e = inr (rule, among, side_in rule side f (inr (unknown_from (items_on rule side) place f stranger e)))
    parts_from _ (SetTwice rule sets place among of again) f e = inr (rule, among, inl (inr (inl (sets, of, inl (again_from (embeds_in sets) place f again e)))))
    parts_from _ (SetUnknown rule set among assigned absent) f e =
        let (sets, of, there) = node_of_set (sets_of rule.right) set assigned in
        inr (rule, among, inl (inr (inl (sets, of, inr (set, there, (unknown_fault f set.embed.place e, absent))))))
    parts_from _ (ValueFault rule tokens form found among within value has) f e = inr (rule, among, inr (value_in rule tokens f within (form, value, found, has, sym e)))
    parts_from _ (SetKind rule set kind among assigned needed other) f e =
        inr (rule, among, inr (inl (set, assigned, inr (record { needed = kind; asked = needed; form = other.form; value = other.value; known = other.known; other = other.other; here = kind_fault f (first_place set.value) e }))))
    parts_from _ (PreKind rule tokens among is other) f e =
        let found : IsPreFault n embeds (params_of rule) (names_for embeds rule) (Some tokens) f =
        inr (record { needed = Truth; asked = refl; form = other.form; value = other.value; known = other.known; other = other.other; here = kind_fault f (first_place tokens) e }) in
        inr (rule, among, inr (inr (subst (λ (pre : Option (List ExprToken)). IsPreFault n embeds (params_of rule) (names_for embeds rule) pre f) (sym is) found)))

    abbrev IsThere : NameFault → Type 0
    IsThere f = IsFaultInRules n embeds rules (fault_of f)

    side_there : (rule : RuleForm) (side : Side) (f : NameFault) → Contains rules rule → SideFault (items_on rule side) f → IsThere f
    side_there rule side f among (inl h) = let again = again_of (nodes_in (items_on rule side)) f h in subst IsThere again.2 (NodeTwice rule side again.0 among again.1)
    side_there rule side f among (inr (m, end, (here, stranger))) =
        subst IsThere here (NodeUnknown rule side m.place among (record { mention = m; among = end; here = refl; stranger = sym (among_items (items_on rule side) [] m.name) ∙ stranger }))

    names_there : (rule : RuleForm) (f : NameFault) → Contains rules rule → NamesFault (names_in embeds) rule f → IsThere f
    names_there rule f among (inl h) = let again = again_of (params_in rule) f h in subst IsThere again.2 (ParamTwice rule again.0 among again.1)
    names_there rule f among (inr (inl (sets, of, inl h))) = let again = again_of (embeds_in sets) f h in subst IsThere again.2 (SetTwice rule sets again.0 among of again.1)
    names_there rule f among (inr (inl (sets, of, inr (set, there, (here, absent))))) = subst IsThere here (SetUnknown rule set among (assigned_in (sets_of rule.right) sets set of there) absent)
    names_there rule f among (inr (inr (inl h))) = side_there rule Left f among h
    names_there rule f among (inr (inr (inr h))) = side_there rule Right f among h

    expr_there : (rule : RuleForm) (tokens : List ExprToken) (f : NameFault) → Contains rules rule → IsValueIn rule tokens → IsFaultOfExpr n (names_for embeds rule) tokens f → IsThere f
    expr_there rule tokens f among within (form, value, found, has, is) = subst (IsFaultInRules n embeds rules) (sym is) (ValueFault rule tokens form found among within value has)

    values_there : (rule : RuleForm) (f : NameFault) → Contains rules rule → IsFaultOfValues n embeds rule f → IsThere f
    values_there rule f among (inl (set, assigned, inl h)) = expr_there rule set.value f among (SetValue set assigned refl) h
    values_there rule f among (inl (set, assigned, inr h)) =
        subst IsThere (sym h.here) (SetKind rule set h.needed among assigned h.asked (record { form = h.form; value = h.value; known = h.known; other = h.other }))
    values_there rule f among (inr h) = go rule.pre refl h
      where
        go : (pre : Option (List ExprToken)) → rule.pre ≡ pre → IsPreFault n embeds (params_of rule) (names_for embeds rule) pre f → IsThere f
        go None is h = absurd h
        go (Some tokens) is (inl h) = expr_there rule tokens f among (PreValue is) h
        go (Some tokens) is (inr h) =
            let kind : h.needed ≡ Truth = sym cc in
            subst IsThere (sym h.here)
            (PreKind rule tokens among is (record { form = h.form; value = h.value; known = h.known; other = subst (λ k. text.kind_in embeds rule (meaning.tree_in (names_for embeds rule) h.form) ≡ Some k → ⊥) kind h.other }))

    parts_there : (f : NameFault) → FaultAmong rules f → IsThere f
    parts_there f (inl h) = let again = again_of (rule_names rules) f h in subst IsThere again.2 (RuleTwice again.0 again.1)
    parts_there f (inr (rule, among, inl h)) = names_there rule f among h
    parts_there f (inr (rule, among, inr h)) = values_there rule f among h

  -- ---- of one rule

  alone : (mention : Mention) (f : NameFault) → IsAgainBehind [] (mention ∷ []) f → ⊥
  alone mention f h = elim (again_cases [] mention [] f h) [
    | inl first ↦ (let e : false ≡ true = first.1 in cc)
    | inr behind ↦ again_none (with_name [] mention.name) f behind
  ]

  pub parts_of_one : (rule : RuleForm) (f : NameFault) → IsFaultInRule n embeds rule f → FaultOfRule rule f
  parts_of_one rule f h = elim (parts_from (rule ∷ []) (fault_of f) h f refl) [
    | inl again ↦ absurd (alone rule.name f again)
    | inr (r, among, fault) ↦ elim (contains_cases rule [] r among) [
      | inl e ↦ subst (λ (k : RuleForm). FaultOfRule k f) (sym e) fault
      | inr behind ↦ absurd (contains_none r behind)
    ]
  ]

  pub there_in_one : (rule : RuleForm) (f : NameFault) → FaultOfRule rule f → IsFaultInRule n embeds rule f
  there_in_one rule f h = parts_there (rule ∷ []) f (inr (rule, contains_here rule [], h))

  pub least_in_rule : (rule : RuleForm) (names values : Option NameFault) → names ≡ rule_least (names_in embeds) rule → IsLeast (IsFaultOfValues n embeds rule) values → IsLeast (IsFaultInRule n embeds rule) (least_of names values)
  least_in_rule rule names values is least =
      least_joined {P = NamesFault (names_in embeds) rule} {Q = IsFaultOfValues n embeds rule} {R = IsFaultInRule n embeds rule} (parts_of_one rule) (λ f h. there_in_one rule f (inl h)) (λ f h. there_in_one rule f (inr h))
      names values (subst (IsLeast (NamesFault (names_in embeds) rule)) (sym is) (rule_is_least (names_in embeds) rule)) least

  -- ---- behind other rules

  pub least_of_rule : (names : List (List ℕ)) (rule : RuleForm) (again fault : Option NameFault) → again ≡ again_at names rule.name → IsLeast (IsFaultInRule n embeds rule) fault → IsLeast (IsRuleFault n embeds names rule) (least_of again fault)
  least_of_rule names rule again fault is least =
      least_joined {P = AgainFirst names rule.name} {Q = IsFaultInRule n embeds rule} {R = IsRuleFault n embeds names rule} (λ f h. h) (λ f h. inl h) (λ f h. inr h)
      again fault (subst (IsLeast (AgainFirst names rule.name)) (sym is) (again_first names rule.name)) least

  module _ (names : List (List ℕ)) (rule : RuleForm) (rules : List RuleForm) where
    behind_cases : (f : NameFault) → IsFaultBehind n embeds names (rule ∷ rules) f → IsRuleFault n embeds names rule f ⊎ IsFaultBehind n embeds (with_name names rule.name.name) rules f
    behind_cases f (inl again) = elim (again_cases names rule.name (rule_names rules) f again) [ inl h ↦ inl (inl h) | inr h ↦ inr (inl h) ]
    behind_cases f (inr (r, among, h)) = elim (contains_cases rule rules r among) [
      | inl e ↦ inl (inr (subst (λ (k : RuleForm). IsFaultInRule n embeds k f) (sym e) h))
      | inr behind ↦ inr (inr (r, behind, h))
    ]

    behind_here : (f : NameFault) → IsRuleFault n embeds names rule f → IsFaultBehind n embeds names (rule ∷ rules) f
    behind_here f (inl h) = inl (again_here names rule.name (rule_names rules) f h)
    behind_here f (inr h) = inr (rule, contains_here rule rules, h)

    behind_later : (f : NameFault) → IsFaultBehind n embeds (with_name names rule.name.name) rules f → IsFaultBehind n embeds names (rule ∷ rules) f
    behind_later f (inl h) = inl (again_later names rule.name (rule_names rules) f h)
    behind_later f (inr (r, among, h)) = inr (r, contains_behind rule rules r among, h)

    pub least_behind : (first others : Option NameFault) → IsLeast (IsRuleFault n embeds names rule) first → IsLeast (IsFaultBehind n embeds (with_name names rule.name.name) rules) others → IsLeast (IsFaultBehind n embeds names (rule ∷ rules)) (least_of first others)
    least_behind first others p q =
        least_joined {P = IsRuleFault n embeds names rule} {Q = IsFaultBehind n embeds (with_name names rule.name.name) rules} {R = IsFaultBehind n embeds names (rule ∷ rules)} behind_cases behind_here behind_later first others p q

  pub none_behind : (names : List (List ℕ)) → IsLeast (IsFaultBehind n embeds names []) None
  none_behind names f h = elim h [ inl again ↦ again_none names f again | inr r ↦ contains_none r.0 r.1 ]

  -- ---- of all rules

  to_behind : (rules : List RuleForm) (f : NameFault) → IsFaultInRules n embeds rules (fault_of f) → IsFaultBehind n embeds [] rules f
  to_behind rules f h = elim (parts_from rules (fault_of f) h f refl) [
    | inl again ↦ inl again
    | inr (rule, among, fault) ↦ inr (rule, among, there_in_one rule f fault)
  ]

  of_behind : (rules : List RuleForm) (f : NameFault) → IsFaultBehind n embeds [] rules f → IsFaultInRules n embeds rules (fault_of f)
  of_behind rules f (inl again) = parts_there rules f (inl again)
  of_behind rules f (inr (rule, among, fault)) = parts_there rules f (inr (rule, among, parts_of_one rule f fault))

  pub least_of_all : (rules : List RuleForm) (fault : Option NameFault) → IsLeast (IsFaultBehind n embeds [] rules) fault → IsLeastFault n embeds rules fault
  least_of_all rules fault least = least_same {P = IsFaultBehind n embeds [] rules} {R = λ f. IsFaultInRules n embeds rules (fault_of f)} (to_behind rules) (of_behind rules) fault least
