-- The least fault of a book's names is found, or there is none.
use Rattle.std.proofs.Common.{◌≡◌, ℕ, ◌≤◌, ◌⊎◌, Bool, true, false, List, [], ◌∷◌, ◌++◌, map, Option, Some, None, inl, inr, refl, sym, ap, subst, ◌∙◌}
use Rattle.std.specs.List.{AllByRecursion, Contains}
use Rattle.std.specs.Prelude.{IsTrue}
use Rattle.gm_model.specs.declared.rule.Param.{Param}
use Rattle.gm_model.specs.declared.rule.Side.TheVariants.{Right}
use Rattle.gm_model.specs.declared.schema.Embed.{Embed}
use Rattle.gm_model.specs.declared.value.Kind.{Kind}
use Rattle.gm_model.specs.declared.value.Kind.TheVariants as kinds
use Rattle.gm_model.specs.Kinds.{tree_kind, param_kinds}
use Rattle.gm_model.specs.Reading.{Part}
use Rattle.gm_model.specs.Symbols.{Symbol}
use Rattle.gm_model.specs.Trees.{Tree}
use Rattle.gm_text.specs.SchemaText.{names_in, is_again, schema_of, spell}
use Rattle.gm_text.specs.SchemaText as schemas
use Rattle.gm_parse.specs.Meaning.{Names, faults_in, tree_in}
use Rattle.gm_parse.specs.Meaning as meaning
use Rattle.gm_tree.specs.inner.Building.{noted}
use Rattle.gm_tree.proofs.ReadForms.{noted_none, first_fault}
use Rattle.gm_forms.specs.BookText.{ExprToken, SetForm, Item, NodeItem, LinkItem, RuleForm, BookForm, IsExpr, IsSet, IsItem, IsPre, IsRule, assignments_in, kind_of_embed, names_for, param_of, with_name, IsNameFault, SchemaTwice, RulesFault, TwiceAt}
use Rattle.gm_forms.specs.BookText as text
use Rattle.gm_forms.proofs.Contained.{contains_cases, contains_here, contains_behind, contains_none}
use Rattle.gm_book.specs.declared.names.NameFault.{NameFault}
use Rattle.gm_book.specs.declared.names.NameFault.TheVariants.{Twice, Unknown, WrongKind}
use Rattle.gm_book.specs.inner.FirstNameFault.{fault_of, IsLeast, IsLeastFault, least_of, again_at, rule_least, IsValueFault, IsSetFault, IsPreFault, IsFaultInRule, IsFaultBehind}
use Rattle.gm_book.specs.inner.Values.{HasKind}
use Rattle.gm_book.proofs.LeastFault.{least_joined, least_alone}
use Rattle.gm_book.proofs.OneValue.{AreWithin}
use Rattle.gm_book.proofs.RuleFaults.{least_in_rule, least_of_rule, least_behind, none_behind, least_of_all}
use Rattle.gm_book.proofs.ValueFaults.{first_is_least, no_fault_is_least, other_kind_is_least, no_set, least_of_sets, least_of_values}
use Rattle.gm_book.proofs.ValuesWithin.{AreSetsWithin, IsPreWithin}

abbrev pub HasLeast : (NameFault → Type 0) → Type 0
HasLeast IsFault = (least : Option NameFault) × IsLeast IsFault least

-- ---- of one expression

kind_or_not : (found : Option Kind) (kind : Kind) → (found ≡ Some kind) ⊎ (found ≡ Some kind → ⊥)
kind_or_not None kind = inr (λ e. absurd cc)
kind_or_not (Some kinds.Int) kinds.Int = inl refl
kind_or_not (Some kinds.Bool) kinds.Bool = inl refl
kind_or_not (Some kinds.Vec2) kinds.Vec2 = inl refl
kind_or_not (Some kinds.Vec3) kinds.Vec3 = inl refl
kind_or_not (Some kinds.Rgb) kinds.Rgb = inl refl
kind_or_not (Some found) kind = inr (λ e. absurd cc)

has_kind_or_not : (embeds : List Embed) (params : List Param) (kind : Option Kind) (tree : Tree) → HasKind embeds params kind tree ⊎ (HasKind embeds params kind tree → ⊥)
has_kind_or_not embeds params None tree = inl tt
has_kind_or_not embeds params (Some needed) tree = kind_or_not (tree_kind embeds (param_kinds params) tree) needed

module _ (n : ℕ) (top : n ≤ 7) (embeds : List Embed) (params : List Param) (names : Names) where
  value_found : (tokens : List ExprToken) (kind : Option Kind) → AreWithin tokens → IsExpr n tokens → HasLeast (IsValueFault n embeds params names tokens kind)
  value_found tokens kind within (form, value) = go (noted None (faults_in names form)) refl
    where
      known_found : faults_in names form ≡ [] → HasLeast (IsValueFault n embeds params names tokens kind)
      known_found known = elim (has_kind_or_not embeds params kind (tree_in names form)) [
        | inl has ↦ (None, no_fault_is_least n embeds params names top tokens within kind (tree_in names form) (record { form = form; value = value; known = known; means = refl }) has)
        | inr hasnt ↦ (
          Some (WrongKind (text.first_place tokens)),
          other_kind_is_least n embeds params names top tokens within kind (tree_in names form) (text.first_place tokens) (record { form = form; value = value; known = known; means = refl }) hasnt refl,
        )
      ]

      go : (least : Option meaning.NameFault) → noted None (faults_in names form) ≡ least → HasLeast (IsValueFault n embeds params names tokens kind)
      go None e = known_found (noted_none (faults_in names form) e)
      go (Some (meaning.UnknownAt place)) e = (
        Some (Unknown place),
        first_is_least n embeds params names top tokens within kind (meaning.UnknownAt place) (Unknown place) refl (record { form = form; value = value; first = first_fault names form (meaning.UnknownAt place) e }),
      )
      go (Some (meaning.TwiceAt place)) e = (
        Some (Twice place),
        first_is_least n embeds params names top tokens within kind (meaning.TwiceAt place) (Twice place) refl (record { form = form; value = value; first = first_fault names form (meaning.TwiceAt place) e }),
      )

  sets_found : (sets : List SetForm) → AreSetsWithin sets → AllByRecursion (IsSet n) sets → HasLeast (IsSetFault n embeds params names sets)
  sets_found [] within good = (None, no_set n embeds params names)
  sets_found (set ∷ sets) within good =
      let (first, is) = value_found set.value (kind_of_embed embeds set.embed.name) within.0 good.0.1 in
      let (others, are) = sets_found sets within.1 good.1 in
      (least_of first others, least_of_sets n embeds params names set sets first others is are)

  pre_found : (pre : Option (List ExprToken)) → IsPreWithin pre → IsPre n pre → HasLeast (IsPreFault n embeds params names pre)
  pre_found None within good = (None, λ f h. h)
  pre_found (Some tokens) within good = value_found tokens (Some kinds.Bool) within good

-- ---- of rules

-- no token of its expressions passes a limit
abbrev pub IsRuleWithin : RuleForm → Type 0
IsRuleWithin rule = AreSetsWithin (assignments_in rule.right) × IsPreWithin rule.pre

both_sets : (n : ℕ) (one other : List SetForm) → AllByRecursion (IsSet n) one → AllByRecursion (IsSet n) other → AllByRecursion (IsSet n) (one ++ other)
both_sets n [] other first second = second
both_sets n (set ∷ one) other first second = (first.0, both_sets n one other first.1 second)

pub sets_written : (n : ℕ) (items : List Item) → AllByRecursion (IsItem n Right) items → AllByRecursion (IsSet n) (assignments_in items)
sets_written n [] good = tt
sets_written n (NodeItem node word hook sets ∷ items) good = both_sets n sets (assignments_in items) good.0.2 (sets_written n items good.1)
sets_written n (LinkItem from label to ∷ items) good = sets_written n items good.1

module _ (version n : ℕ) (top : n ≤ 7) (embeds : List Embed) where
  rule_found : (rule : RuleForm) → IsRule version n rule → IsRuleWithin rule → HasLeast (IsFaultInRule n embeds rule)
  rule_found rule good within =
      let params = map param_of rule.params in
      let names = names_for embeds rule in
      let (sets, are) = sets_found n top embeds params names (assignments_in rule.right) within.0 (sets_written n rule.right good.right) in
      let (pre, is) = pre_found n top embeds params names rule.pre within.1 good.pre in
      let values = least_of sets pre in
      (least_of (rule_least (names_in embeds) rule) values, least_in_rule n embeds rule (rule_least (names_in embeds) rule) values refl (least_of_values n embeds params names rule refl refl sets pre are is))

  rules_found : (names : List (List ℕ)) (rules : List RuleForm) → AllByRecursion (IsRule version n) rules → AllByRecursion IsRuleWithin rules → HasLeast (IsFaultBehind n embeds names rules)
  rules_found names [] good within = (None, none_behind n embeds names)
  rules_found names (rule ∷ rules) good within =
      let (alone, is) = rule_found rule good.0 within.0 in
      let first = least_of (again_at names rule.name) alone in
      let (others, are) = rules_found (with_name names rule.name.name) rules good.1 within.1 in
      (least_of first others, least_behind n embeds names rule rules first others (least_of_rule n embeds names rule (again_at names rule.name) alone refl is) are)

  all_found : (rules : List RuleForm) → AllByRecursion (IsRule version n) rules → AllByRecursion IsRuleWithin rules → (least : Option NameFault) × IsLeastFault n embeds rules least
  all_found rules good within = let (least, is) = rules_found [] rules good within in (least, least_of_all n embeds rules least is)

-- ---- of the schema

abbrev IsTwiceAs : schemas.Role → Symbol → NameFault → Type 0
IsTwiceAs role symbol fault = (place : ℕ) × (Twice place ≡ fault) × IsTrue (is_again role symbol) × schemas.IsPlacedAt place role

again_or_not : (again : Bool) (at : ℕ) → HasLeast (λ fault. (place : ℕ) × (Twice place ≡ fault) × IsTrue again × (at ≡ place))
again_or_not true at = (Some (Twice at), least_alone (Twice at) (at, refl, refl, refl) (λ f h. ap Twice h.3 ∙ h.1))
again_or_not false at = (None, λ f h. absurd (no_way h.2))
  where
    no_way : IsTrue false → ⊥
    no_way e = absurd cc

never_again : (fault : NameFault) (P : ℕ → Type 0) → (place : ℕ) × (Twice place ≡ fault) × IsTrue false × P place → ⊥
never_again fault P h = let e : false ≡ true = h.2 in absurd cc

part_found : (role : schemas.Role) (symbol : Symbol) → HasLeast (IsTwiceAs role symbol)
part_found (schemas.NameAt names at) symbol = again_or_not (is_again (schemas.NameAt names at) symbol) at
part_found (schemas.LabelAt n mask at) symbol = again_or_not (is_again (schemas.LabelAt n mask at) symbol) at
part_found schemas.Fixed symbol = (None, λ f h. never_again f (λ place. Unit {0}) h)
part_found schemas.Dimension symbol = (None, λ f h. never_again f (λ place. Unit {0}) h)
part_found (schemas.EmbedWord k) symbol = (None, λ f h. never_again f (λ place. Unit {0}) h)

abbrev IsTwiceIn : List (Part schemas.Role) → NameFault → Type 0
IsTwiceIn parts fault = (part : Part schemas.Role) × Contains parts part × IsTwiceAs part.role part.symbol fault

module _ (part : Part schemas.Role) (parts : List (Part schemas.Role)) where
  abbrev Here : NameFault → Type 0
  Here fault = IsTwiceAs part.role part.symbol fault

  twice_cases : (f : NameFault) → IsTwiceIn (part ∷ parts) f → Here f ⊎ IsTwiceIn parts f
  twice_cases f (other, among, h) = elim (contains_cases part parts other among) [
    | inl e ↦ inl (subst (λ (p : Part schemas.Role). IsTwiceAs p.role p.symbol f) (sym e) h)
    | inr behind ↦ inr (other, behind, h)
  ]

  twice_here : (f : NameFault) → Here f → IsTwiceIn (part ∷ parts) f
  twice_here f h = (part, contains_here part parts, h)

  twice_later : (f : NameFault) → IsTwiceIn parts f → IsTwiceIn (part ∷ parts) f
  twice_later f (other, among, h) = (other, contains_behind part parts other among, h)

  twice_joined : (first others : Option NameFault) → IsLeast Here first → IsLeast (IsTwiceIn parts) others → IsLeast (IsTwiceIn (part ∷ parts)) (least_of first others)
  twice_joined first others p q = least_joined {P = Here} {Q = IsTwiceIn parts} {R = IsTwiceIn (part ∷ parts)} twice_cases twice_here twice_later first others p q

parts_found : (parts : List (Part schemas.Role)) → HasLeast (IsTwiceIn parts)
parts_found [] = (None, λ f h. contains_none h.0 h.1)
parts_found (part ∷ parts) =
    let (first, is) = part_found part.role part.symbol in
    let (others, are) = parts_found parts in
    (least_of first others, twice_joined part parts first others is are)

-- ---- of a book

module _ (book : BookForm) where
  abbrev pub IsBookFault : NameFault → Type 0
  IsBookFault fault = IsNameFault book (fault_of fault)

  abbrev InRules : NameFault → Type 0
  InRules fault = text.IsFaultInRules book.schema.dim (schema_of book.schema).embeds book.rules (fault_of fault)

  twice_is : (place : ℕ) (fault : NameFault) → TwiceAt place ≡ fault_of fault → Twice place ≡ fault
  twice_is place (Twice other) e = ap Twice (cc e)
  twice_is place (Unknown other) e = absurd cc
  twice_is place (WrongKind other) e = absurd cc

  book_cases : (f : NameFault) → IsBookFault f → IsTwiceIn (spell book.schema []) f ⊎ InRules f
  book_cases f h = go (fault_of f) h refl
    where
      go : (fault : text.NameFault) → IsNameFault book fault → fault ≡ fault_of f → IsTwiceIn (spell book.schema []) f ⊎ InRules f
      go _ (SchemaTwice place part among again here) e = inl (part, among, (place, twice_is place f e, again, here))
      go fault (RulesFault _ found) e = inr (subst (text.IsFaultInRules book.schema.dim (schema_of book.schema).embeds book.rules) e found)

  of_schema : (f : NameFault) → IsTwiceIn (spell book.schema []) f → IsBookFault f
  of_schema f (part, among, (place, e, again, here)) = subst IsBookFault e (SchemaTwice place part among again here)

  of_rules : (f : NameFault) → InRules f → IsBookFault f
  of_rules f h = RulesFault (fault_of f) h

  pub fault_found : AllByRecursion (IsRule book.version book.schema.dim) book.rules → AllByRecursion IsRuleWithin book.rules → book.schema.dim ≤ 7 → HasLeast IsBookFault
  fault_found good within top =
      let (first, is) = parts_found (spell book.schema []) in
      let (others, are) = all_found book.version book.schema.dim top (schema_of book.schema).embeds book.rules good within in
      (least_of first others, least_joined {P = IsTwiceIn (spell book.schema [])} {Q = InRules} {R = IsBookFault} book_cases of_schema of_rules first others is are)
