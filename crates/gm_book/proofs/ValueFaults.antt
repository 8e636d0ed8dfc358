-- The least fault of an expression, of assignments and of a rule's expressions.
use Rattle.std.proofs.Common.{◌≡◌, ◌≤◌, ℕ, ◌⊎◌, inl, inr, List, [], ◌∷◌, ◌++◌, map, Option, Some, None, refl, sym, ap, subst, ◌∙◌, arith}
use Rattle.std.proofs.lemmas.List.Elements.{Contains-append_left, Contains-append_right, Contains-append_cases}
use Rattle.std.specs.List.{Contains}
use Rattle.gm_model.specs.declared.rule.Param.{Param}
use Rattle.gm_model.specs.declared.schema.Embed.{Embed}
use Rattle.gm_model.specs.declared.value.Kind.{Kind}
use Rattle.gm_model.specs.Kinds.{tree_kind, param_kinds}
use Rattle.gm_model.specs.Trees.{Tree}
use Rattle.gm_parse.specs.Meaning as meaning
use Rattle.gm_parse.specs.Meaning.{Names, UnknownAt, TwiceAt, faults_in, tree_in}
use Rattle.gm_forms.specs.BookText.{ExprToken, SetForm, Item, RuleForm, IsNotAfter, fault_in_value, first_place, assignments_in, kind_of_embed, names_for, param_of}
use Rattle.gm_forms.proofs.Contained.{contains_cases, contains_here, contains_behind, contains_none}
use Rattle.gm_book.specs.declared.names.NameFault.{NameFault}
use Rattle.gm_book.specs.declared.names.NameFault.TheVariants.{WrongKind}
use Rattle.gm_book.specs.inner.FirstNameFault.{fault_of, IsLeast, least_of, IsFaultOfExpr, IsOtherKind, IsValueFault, IsSetFault, IsAssignedFault, IsPreFault, IsFaultOfValues}
use Rattle.gm_book.specs.inner.Values.{HasKind, IsValueRead, HasFirstFault}
use Rattle.gm_book.proofs.LeastFault.{least_joined}
use Rattle.gm_book.proofs.LeastOf.{not_after, order_of}
use Rattle.gm_book.proofs.OneValue.{AreWithin, one_tree, no_fault_of_other, first_of_other}

-- ---- of one expression

not_after_in_value : (fault other : meaning.NameFault) → meaning.IsNotAfter fault other → IsNotAfter (fault_in_value fault) (fault_in_value other)
not_after_in_value (UnknownAt place) (UnknownAt at) h = h
not_after_in_value (UnknownAt place) (TwiceAt at) h = h
not_after_in_value (TwiceAt place) (UnknownAt at) h = h
not_after_in_value (TwiceAt place) (TwiceAt at) h = h

module _ (n : ℕ) (embeds : List Embed) (params : List Param) (names : Names) (top : n ≤ 7) (tokens : List ExprToken) (within : AreWithin tokens) (kind : Option Kind) where
  abbrev IsFault : NameFault → Type 0
  IsFault fault = IsValueFault n embeds params names tokens kind fault

  pub first_is_least : (first : meaning.NameFault) (fault : NameFault) → fault_of fault ≡ fault_in_value first → HasFirstFault n names tokens first → IsLeast IsFault (Some fault)
  first_is_least first fault is has = (inl (has.form, has.value, first, has.first.there, is), others)
    where
      others : (f : NameFault) → IsFault f → IsNotAfter (fault_of fault) (fault_of f)
      others f (inl (form, value, found, there, at)) =
          let least : IsNotAfter (fault_in_value first) (fault_in_value found) = not_after_in_value first found (first_of_other n names top tokens within has.form form has.value value first found has.first there) in
          rw (is, at) least
      others f (inr other) =
          let none : faults_in names has.form ≡ [] = no_fault_of_other n names top tokens within other.form has.form other.value has.value other.known in
          absurd (contains_none first (subst (λ (faults : List meaning.NameFault). Contains faults first) none has.first.there))

  module _ (tree : Tree) (read : IsValueRead n names tokens tree) where
    known : (f : NameFault) → IsFaultOfExpr n names tokens f → ⊥
    known f (form, value, found, there, at) =
        let none : faults_in names form ≡ [] = no_fault_of_other n names top tokens within read.form form read.value value read.known in
        contains_none found (subst (λ (faults : List meaning.NameFault). Contains faults found) none there)

  pub no_fault_is_least : (tree : Tree) → IsValueRead n names tokens tree → HasKind embeds params kind tree → IsLeast IsFault None
  no_fault_is_least tree read has f (inl found) = known tree read f found
  no_fault_is_least tree read has f (inr other) =
      let meant : tree ≡ tree_in names other.form = read.means ∙ one_tree n names top tokens within read.form other.form read.value other.value in
      let needed : HasKind embeds params (Some other.needed) tree = subst (λ (k : Option Kind). HasKind embeds params k tree) other.asked has in
      other.other (ap (tree_kind embeds (param_kinds params)) (sym meant) ∙ needed)

  pub other_kind_is_least : (tree : Tree) (place : ℕ) → IsValueRead n names tokens tree → (HasKind embeds params kind tree → ⊥) → place ≡ first_place tokens → IsLeast IsFault (Some (WrongKind place))
  other_kind_is_least tree place read hasnt at = (inr (there kind refl hasnt), others)
    where
      there : (k : Option Kind) → kind ≡ k → (HasKind embeds params k tree → ⊥) → IsOtherKind n embeds params names tokens kind (WrongKind place)
      there None is none = absurd (none tt)
      there (Some needed) is none = record {
        needed = needed;
        asked = is;
        form = read.form;
        value = read.value;
        known = read.known;
        other = λ e. none (ap (tree_kind embeds (param_kinds params)) read.means ∙ e);
        here = ap WrongKind at;
      }

      others : (f : NameFault) → IsFault f → IsNotAfter (fault_of (WrongKind place)) (fault_of f)
      others f (inl found) = absurd (known tree read f found)
      others f (inr other) = not_after (WrongKind place) f (let e : order_of (WrongKind place) ≡ order_of f = ap order_of (ap WrongKind at ∙ sym other.here) in omega arith)

-- ---- of assignments

module _ (n : ℕ) (embeds : List Embed) (params : List Param) (names : Names) where
  abbrev OfSets : List SetForm → NameFault → Type 0
  OfSets sets fault = IsSetFault n embeds params names sets fault

  abbrev OfSet : SetForm → NameFault → Type 0
  OfSet set fault = IsValueFault n embeds params names set.value (kind_of_embed embeds set.embed.name) fault

  pub no_set : IsLeast (OfSets []) None
  no_set f h = contains_none h.0 h.1

  module _ (set : SetForm) (sets : List SetForm) where
    set_cases : (f : NameFault) → OfSets (set ∷ sets) f → OfSet set f ⊎ OfSets sets f
    set_cases f (s, among, h) = elim (contains_cases set sets s among) [
      | inl e ↦ inl (subst (λ (k : SetForm). OfSet k f) (sym e) h)
      | inr behind ↦ inr (s, behind, h)
    ]

    set_here : (f : NameFault) → OfSet set f → OfSets (set ∷ sets) f
    set_here f h = (set, contains_here set sets, h)

    set_later : (f : NameFault) → OfSets sets f → OfSets (set ∷ sets) f
    set_later f (s, among, h) = (s, contains_behind set sets s among, h)

    pub least_of_sets : (first others : Option NameFault) → IsLeast (OfSet set) first → IsLeast (OfSets sets) others → IsLeast (OfSets (set ∷ sets)) (least_of first others)
    least_of_sets first others p q = least_joined {P = OfSet set} {Q = OfSets sets} {R = OfSets (set ∷ sets)} set_cases set_here set_later first others p q

  module _ (front behind : List SetForm) where
    both_cases : (f : NameFault) → OfSets (front ++ behind) f → OfSets front f ⊎ OfSets behind f
    both_cases f (s, among, h) = elim (Contains-append_cases front behind s among) [ inl first ↦ inl (s, first, h) | inr second ↦ inr (s, second, h) ]

    both_front : (f : NameFault) → OfSets front f → OfSets (front ++ behind) f
    both_front f (s, among, h) = (s, Contains-append_left front behind s among, h)

    both_behind : (f : NameFault) → OfSets behind f → OfSets (front ++ behind) f
    both_behind f (s, among, h) = (s, Contains-append_right front behind s among, h)

    pub least_of_both : (first others : Option NameFault) → IsLeast (OfSets front) first → IsLeast (OfSets behind) others → IsLeast (OfSets (front ++ behind)) (least_of first others)
    least_of_both first others p q = least_joined {P = OfSets front} {Q = OfSets behind} {R = OfSets (front ++ behind)} both_cases both_front both_behind first others p q

  pub least_of_items : (sets : List SetForm) (item : Item) (items : List Item) (first others : Option NameFault) → assignments_in (item ∷ items) ≡ sets ++ assignments_in items → IsLeast (OfSets sets) first
      → IsLeast (IsAssignedFault n embeds params names items) others → IsLeast (IsAssignedFault n embeds params names (item ∷ items)) (least_of first others)
  least_of_items sets item items first others is p q =
      subst (λ (all : List SetForm). IsLeast (OfSets all) (least_of first others)) (sym is) (least_of_both sets (assignments_in items) first others p q)

-- ---- of a rule

pub least_of_values : (n : ℕ) (embeds : List Embed) (params : List Param) (names : Names) (rule : RuleForm) → params ≡ map param_of rule.params → names ≡ names_for embeds rule → (sets pre : Option NameFault)
    → IsLeast (IsAssignedFault n embeds params names rule.right) sets → IsLeast (IsPreFault n embeds params names rule.pre) pre → IsLeast (IsFaultOfValues n embeds rule) (least_of sets pre)
least_of_values n embeds params names rule is same sets pre p q =
    least_joined {P = IsAssignedFault n embeds (map param_of rule.params) (names_for embeds rule) rule.right} {Q = IsPreFault n embeds (map param_of rule.params) (names_for embeds rule) rule.pre} {R = IsFaultOfValues n embeds rule}
    (λ f h. h) (λ f h. inl h) (λ f h. inr h) sets pre
    (subst (λ (ns : Names). IsLeast (IsAssignedFault n embeds (map param_of rule.params) ns rule.right) sets) same (subst (λ (ps : List Param). IsLeast (IsAssignedFault n embeds ps names rule.right) sets) is p))
    (subst (λ (ns : Names). IsLeast (IsPreFault n embeds (map param_of rule.params) ns rule.pre) pre) same (subst (λ (ps : List Param). IsLeast (IsPreFault n embeds ps names rule.pre) pre) is q))
