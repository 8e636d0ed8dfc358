-- The least fault of a rule's parts is the least of the names outside of its expressions.
use Rattle.std.proofs.Common.{◌≡◌, ℕ, ◌⊎◌, true, false, ◌||◌, inl, inr, List, [], ◌∷◌, ◌++◌, map, Option, Some, None, refl, sym, ap, subst, ◌∙◌, arith}
use Rattle.std.proofs.lemmas.Bool.{cases_Bool, ltb-true, ltb-false}
use Rattle.std.specs.List.{Contains}
use Rattle.gm_model.specs.Names.{Mention, is_among}
use Rattle.gm_forms.specs.BookText.{SetForm, Item, NodeItem, LinkItem, ParamForm, RuleForm, with_name, names_of, params_in, embeds_in, sets_of, nodes_in, ends_in}
use Rattle.gm_book.specs.declared.names.NameFault.{NameFault}
use Rattle.gm_book.specs.declared.names.NameFault.TheVariants.{Twice, Unknown}
use Rattle.gm_book.specs.inner.FirstNameFault.{is_before, IsLeast, IsAgainBehind, least_of, again_at, with_items, least_again, unknown_at, least_unknown, side_least, least_param, least_set, least_assigned, rule_least}
use Rattle.gm_book.proofs.Among.{among_with, or_false, or_regroup}
use Rattle.gm_book.proofs.LeastOf.{order_of, before_order, in_order, not_after}
use Rattle.gm_forms.proofs.Contained.{contains_cases, contains_here, contains_behind, contains_none}

-- ---- the least of two

module _ {P Q R : NameFault → Type 0} (cases : (f : NameFault) → R f → P f ⊎ Q f) (one : (f : NameFault) → P f → R f) (other : (f : NameFault) → Q f → R f) where
  pub least_joined : (a b : Option NameFault) → IsLeast P a → IsLeast Q b → IsLeast R (least_of a b)
  least_joined None None p q = λ f r. elim (cases f r) [ inl h ↦ p f h | inr h ↦ q f h ]
  least_joined None (Some b) p q = (other b q.0, λ f r. elim (cases f r) [ inl h ↦ absurd (p f h) | inr h ↦ q.1 f h ])
  least_joined (Some a) None p q = (one a p.0, λ f r. elim (cases f r) [ inl h ↦ p.1 f h | inr h ↦ absurd (q f h) ])
  least_joined (Some a) (Some b) p q = elim (cases_Bool (is_before b a)) [
    | inl less ↦ rw less (
      other b q.0,
      λ f r. elim (cases f r) [
        | inl h ↦ not_after b f (omega (arith, in_order a f (p.1 f h), ltb-true _ _ (sym (before_order b a) ∙ less)))
        | inr h ↦ q.1 f h
      ],
    )
    | inr more ↦ rw more (
      one a p.0,
      λ f r. elim (cases f r) [
        | inl h ↦ p.1 f h
        | inr h ↦ not_after a f (omega (arith, in_order b f (q.1 f h), ltb-false _ _ (sym (before_order b a) ∙ more)))
      ],
    )
  ]

pub least_same : {P R : NameFault → Type 0} → ((f : NameFault) → R f → P f) → ((f : NameFault) → P f → R f) → (a : Option NameFault) → IsLeast P a → IsLeast R a
least_same to from None p = λ f r. p f (to f r)
least_same to from (Some a) p = (from a p.0, λ f r. p.1 f (to f r))

-- where there is but one fault, it is the least
pub least_alone : {P : NameFault → Type 0} (a : NameFault) → P a → ((f : NameFault) → P f → a ≡ f) → IsLeast P (Some a)
least_alone a there same = (there, λ f h. not_after a f (let e : order_of a ≡ order_of f = ap order_of (same f h) in omega arith))

-- ---- names mentioned again

abbrev pub AgainFirst : List (List ℕ) → Mention → NameFault → Type 0
AgainFirst names mention fault = (Twice mention.place ≡ fault) × (is_among names mention.name ≡ true)

pub again_first : (names : List (List ℕ)) (mention : Mention) → IsLeast (AgainFirst names mention) (again_at names mention)
again_first names mention = elim (cases_Bool (is_among names mention.name)) [
  | inl there ↦ rw there (least_alone {P = AgainFirst names mention} (Twice mention.place) (refl, there) (λ f h. h.0))
  | inr absent ↦ rw absent (λ f h. let e : true ≡ false = sym h.1 ∙ absent in cc)
]

pub again_none : (names : List (List ℕ)) (f : NameFault) → IsAgainBehind names [] f → ⊥
again_none names f ([], m, behind, split, here, again) = cc
again_none names f (x ∷ front, m, behind, split, here, again) = cc

module _ (names : List (List ℕ)) (mention : Mention) (mentions : List Mention) where
  pub again_cases : (f : NameFault) → IsAgainBehind names (mention ∷ mentions) f → AgainFirst names mention f ⊎ IsAgainBehind (with_name names mention.name) mentions f
  again_cases f ([], m, behind, split, here, again) =
      let e : mention ≡ m = cc in
      inl (ap (λ (k : Mention). Twice k.place) e ∙ here, ap (λ (k : Mention). is_among names k.name) e ∙ (or_false (is_among names m.name) ∙ again))
  again_cases f (x ∷ front, m, behind, split, here, again) =
      let e : mention ≡ x = cc in
      let rest : mentions ≡ front ++ m ∷ behind = cc in
      let first = λ (k : Mention). is_among (with_name names k.name) m.name || is_among (names_of front) m.name in
      inr (
        front,
        m,
        behind,
        rest,
        here,
        ap first e ∙ (ap (λ b. b || is_among (names_of front) m.name) (among_with names x.name m.name) ∙ (or_regroup (is_among names m.name) _ (is_among (names_of front) m.name) ∙ again)),
      )

  pub again_here : (f : NameFault) → AgainFirst names mention f → IsAgainBehind names (mention ∷ mentions) f
  again_here f h = ([], mention, mentions, refl, h.0, rw h.1 refl)

  pub again_later : (f : NameFault) → IsAgainBehind (with_name names mention.name) mentions f → IsAgainBehind names (mention ∷ mentions) f
  again_later f (front, m, behind, split, here, again) = (
    mention ∷ front,
    m,
    behind,
    ap (λ xs. mention ∷ xs) split,
    here,
    sym (or_regroup (is_among names m.name) _ (is_among (names_of front) m.name)) ∙ (ap (λ b. b || is_among (names_of front) m.name) (sym (among_with names mention.name m.name)) ∙ again),
  )

again_least : (items : List Item) (names : List (List ℕ)) → IsLeast (IsAgainBehind names (nodes_in items)) (least_again names items)
again_least [] names = again_none names
again_least (NodeItem node word hook sets ∷ items) names =
    least_joined {P = AgainFirst names node} {Q = IsAgainBehind (with_name names node.name) (nodes_in items)} {R = IsAgainBehind names (node ∷ nodes_in items)}
    (again_cases names node (nodes_in items)) (again_here names node (nodes_in items)) (again_later names node (nodes_in items))
    (again_at names node) (least_again (with_name names node.name) items) (again_first names node) (again_least items (with_name names node.name))
again_least (LinkItem from label to ∷ items) names = again_least items names

-- ---- names that are unknown

abbrev pub UnknownAt : List (List ℕ) → Mention → NameFault → Type 0
UnknownAt names mention fault = (Unknown mention.place ≡ fault) × (is_among names mention.name ≡ false)

unknown_first : (names : List (List ℕ)) (mention : Mention) → IsLeast (UnknownAt names mention) (unknown_at names mention)
unknown_first names mention = elim (cases_Bool (is_among names mention.name)) [
  | inl there ↦ rw there (λ f h. let e : true ≡ false = sym there ∙ h.1 in cc)
  | inr absent ↦ rw absent (least_alone {P = UnknownAt names mention} (Unknown mention.place) (refl, absent) (λ f h. h.0))
]

abbrev pub UnknownIn : List (List ℕ) → List Mention → NameFault → Type 0
UnknownIn names mentions fault = (mention : Mention) × Contains mentions mention × UnknownAt names mention fault

module _ (names : List (List ℕ)) (from to : Mention) (mentions : List Mention) where
  abbrev UnknownEnd : NameFault → Type 0
  UnknownEnd f = UnknownAt names from f ⊎ UnknownAt names to f

  unknown_cases : (f : NameFault) → UnknownIn names (from ∷ to ∷ mentions) f → UnknownEnd f ⊎ UnknownIn names mentions f
  unknown_cases f (m, among, h) = elim (contains_cases from (to ∷ mentions) m among) [
    | inl e ↦ inl (inl (subst (λ k. UnknownAt names k f) (sym e) h))
    | inr later ↦ elim (contains_cases to mentions m later) [
      | inl e ↦ inl (inr (subst (λ k. UnknownAt names k f) (sym e) h))
      | inr behind ↦ inr (m, behind, h)
    ]
  ]

  unknown_here : (f : NameFault) → UnknownEnd f → UnknownIn names (from ∷ to ∷ mentions) f
  unknown_here f (inl h) = (from, contains_here from (to ∷ mentions), h)
  unknown_here f (inr h) = (to, contains_behind from (to ∷ mentions) to (contains_here to mentions), h)

  unknown_later : (f : NameFault) → UnknownIn names mentions f → UnknownIn names (from ∷ to ∷ mentions) f
  unknown_later f (m, among, h) = (m, contains_behind from (to ∷ mentions) m (contains_behind to mentions m among), h)

  unknown_end : IsLeast UnknownEnd (least_of (unknown_at names from) (unknown_at names to))
  unknown_end = least_joined {P = UnknownAt names from} {Q = UnknownAt names to} {R = UnknownEnd} (λ f h. h) (λ f h. inl h) (λ f h. inr h) (unknown_at names from) (unknown_at names to) (unknown_first names from) (unknown_first names to)

unknown_least : (names : List (List ℕ)) (items : List Item) → IsLeast (UnknownIn names (ends_in items)) (least_unknown names items)
unknown_least names [] = λ f h. contains_none h.0 h.1
unknown_least names (NodeItem node word hook sets ∷ items) = unknown_least names items
unknown_least names (LinkItem from label to ∷ items) =
    least_joined {P = UnknownEnd names from to (ends_in items)} {Q = UnknownIn names (ends_in items)} {R = UnknownIn names (from ∷ to ∷ ends_in items)}
    (unknown_cases names from to (ends_in items)) (unknown_here names from to (ends_in items)) (unknown_later names from to (ends_in items))
    (least_of (unknown_at names from) (unknown_at names to)) (least_unknown names items) (unknown_end names from to (ends_in items)) (unknown_least names items)

-- ---- names after `with`

abbrev pub UnknownSet : List (List ℕ) → List SetForm → NameFault → Type 0
UnknownSet known sets fault = (set : SetForm) × Contains sets set × UnknownAt known set.embed fault

module _ (known : List (List ℕ)) where
  -- of one node
  abbrev pub SetsFault : List (List ℕ) → List SetForm → NameFault → Type 0
  SetsFault names sets fault = IsAgainBehind names (embeds_in sets) fault ⊎ UnknownSet known sets fault

  module _ (names : List (List ℕ)) (set : SetForm) (sets : List SetForm) where
    abbrev SetFault : NameFault → Type 0
    SetFault f = AgainFirst names set.embed f ⊎ UnknownAt known set.embed f

    set_is_least : IsLeast SetFault (least_of (again_at names set.embed) (unknown_at known set.embed))
    set_is_least =
        least_joined {P = AgainFirst names set.embed} {Q = UnknownAt known set.embed} {R = SetFault} (λ f h. h) (λ f h. inl h) (λ f h. inr h)
        (again_at names set.embed) (unknown_at known set.embed) (again_first names set.embed) (unknown_first known set.embed)

    sets_cases : (f : NameFault) → SetsFault names (set ∷ sets) f → SetFault f ⊎ SetsFault (with_name names set.embed.name) sets f
    sets_cases f (inl again) = elim (again_cases names set.embed (embeds_in sets) f again) [ inl h ↦ inl (inl h) | inr h ↦ inr (inl h) ]
    sets_cases f (inr (s, among, h)) = elim (contains_cases set sets s among) [
      | inl e ↦ inl (inr (subst (λ (k : SetForm). UnknownAt known k.embed f) (sym e) h))
      | inr behind ↦ inr (inr (s, behind, h))
    ]

    sets_here : (f : NameFault) → SetFault f → SetsFault names (set ∷ sets) f
    sets_here f (inl h) = inl (again_here names set.embed (embeds_in sets) f h)
    sets_here f (inr h) = inr (set, contains_here set sets, h)

    sets_later : (f : NameFault) → SetsFault (with_name names set.embed.name) sets f → SetsFault names (set ∷ sets) f
    sets_later f (inl h) = inl (again_later names set.embed (embeds_in sets) f h)
    sets_later f (inr (s, among, h)) = inr (s, contains_behind set sets s among, h)

  sets_are_least : (sets : List SetForm) (names : List (List ℕ)) → IsLeast (SetsFault names sets) (least_set known names sets)
  sets_are_least [] names = λ f h. elim h [ inl again ↦ again_none names f again | inr u ↦ contains_none u.0 u.1 ]
  sets_are_least (set ∷ sets) names =
      least_joined {P = SetFault names set sets} {Q = SetsFault (with_name names set.embed.name) sets} {R = SetsFault names (set ∷ sets)} (sets_cases names set sets) (sets_here names set sets) (sets_later names set sets)
      (least_of (again_at names set.embed) (unknown_at known set.embed)) (least_set known (with_name names set.embed.name) sets) (set_is_least names set sets) (sets_are_least sets (with_name names set.embed.name))

  -- of one of the nodes
  abbrev pub AssignedFault : List Item → NameFault → Type 0
  AssignedFault items fault = (sets : List SetForm) × Contains (sets_of items) sets × SetsFault [] sets fault

  module _ (sets : List SetForm) (items : List Item) where
    abbrev OfNodes : NameFault → Type 0
    OfNodes f = (of : List SetForm) × Contains (sets ∷ sets_of items) of × SetsFault [] of f

    nodes_cases : (f : NameFault) → OfNodes f → SetsFault [] sets f ⊎ AssignedFault items f
    nodes_cases f (of, among, h) = elim (contains_cases sets (sets_of items) of among) [
      | inl e ↦ inl (subst (λ ss. SetsFault [] ss f) (sym e) h)
      | inr behind ↦ inr (of, behind, h)
    ]

    nodes_here : (f : NameFault) → SetsFault [] sets f → OfNodes f
    nodes_here f h = (sets, contains_here sets (sets_of items), h)

    nodes_later : (f : NameFault) → AssignedFault items f → OfNodes f
    nodes_later f (of, among, h) = (of, contains_behind sets (sets_of items) of among, h)

  assigned_is_least : (items : List Item) → IsLeast (AssignedFault items) (least_assigned known items)
  assigned_is_least [] = λ f h. contains_none h.0 h.1
  assigned_is_least (NodeItem node word hook sets ∷ items) =
      least_joined {P = SetsFault [] sets} {Q = AssignedFault items} {R = AssignedFault (NodeItem node word hook sets ∷ items)} (nodes_cases sets items) (nodes_here sets items) (nodes_later sets items)
      (least_set known [] sets) (least_assigned known items) (sets_are_least sets []) (assigned_is_least items)
  assigned_is_least (LinkItem from label to ∷ items) = assigned_is_least items

-- ---- sides and rules

abbrev pub SideFault : List Item → NameFault → Type 0
SideFault items fault = IsAgainBehind [] (nodes_in items) fault ⊎ UnknownIn (with_items [] items) (ends_in items) fault

side_is_least : (items : List Item) → IsLeast (SideFault items) (side_least items)
side_is_least items =
    least_joined {P = IsAgainBehind [] (nodes_in items)} {Q = UnknownIn (with_items [] items) (ends_in items)} {R = SideFault items} (λ f h. h) (λ f h. inl h) (λ f h. inr h)
    (least_again [] items) (least_unknown (with_items [] items) items) (again_least items []) (unknown_least (with_items [] items) items)

abbrev param_names : List ParamForm → List Mention
param_names params = map (λ (param : ParamForm). param.name) params

param_is_least : (params : List ParamForm) (names : List (List ℕ)) → IsLeast (IsAgainBehind names (param_names params)) (least_param names params)
param_is_least [] names = again_none names
param_is_least (param ∷ params) names =
    least_joined {P = AgainFirst names param.name} {Q = IsAgainBehind (with_name names param.name.name) (param_names params)} {R = IsAgainBehind names (param_names (param ∷ params))}
    (again_cases names param.name (param_names params)) (again_here names param.name (param_names params)) (again_later names param.name (param_names params))
    (again_at names param.name) (least_param (with_name names param.name.name) params) (again_first names param.name) (param_is_least params (with_name names param.name.name))

abbrev pub SidesFault : RuleForm → NameFault → Type 0
SidesFault rule fault = SideFault rule.left fault ⊎ SideFault rule.right fault

module _ (known : List (List ℕ)) where
  abbrev pub ItemsFault : RuleForm → NameFault → Type 0
  ItemsFault rule fault = AssignedFault known rule.right fault ⊎ SidesFault rule fault

  -- of the names outside of expressions
  abbrev pub NamesFault : RuleForm → NameFault → Type 0
  NamesFault rule fault = IsAgainBehind [] (params_in rule) fault ⊎ ItemsFault rule fault

  pub rule_is_least : (rule : RuleForm) → IsLeast (NamesFault rule) (rule_least known rule)
  unfolding rule_least
  rule_is_least rule =
      let sides : IsLeast (SidesFault rule) (least_of (side_least rule.left) (side_least rule.right)) =
      least_joined {P = SideFault rule.left} {Q = SideFault rule.right} {R = SidesFault rule} (λ f h. h) (λ f h. inl h) (λ f h. inr h)
      (side_least rule.left) (side_least rule.right) (side_is_least rule.left) (side_is_least rule.right) in
      let items : IsLeast (ItemsFault rule) (least_of (least_assigned known rule.right) (least_of (side_least rule.left) (side_least rule.right))) =
      least_joined {P = AssignedFault known rule.right} {Q = SidesFault rule} {R = ItemsFault rule} (λ f h. h) (λ f h. inl h) (λ f h. inr h)
      (least_assigned known rule.right) (least_of (side_least rule.left) (side_least rule.right)) (assigned_is_least known rule.right) sides in
      least_joined {P = IsAgainBehind [] (params_in rule)} {Q = ItemsFault rule} {R = NamesFault rule} (λ f h. h) (λ f h. inl h) (λ f h. inr h)
      (least_param [] rule.params) (least_of (least_assigned known rule.right) (least_of (side_least rule.left) (side_least rule.right))) (param_is_least rule.params []) items
