-- Where each expression of a rule was read without a fault, and its names outside of expressions are in order, there is no fault in it.
use Rattle.std.proofs.Common.{◌≡◌, ℕ, Bool, true, false, if◌then◌else◌, ◌||◌, inl, inr, List, [], ◌∷◌, ◌++◌, map, Option, Some, None, Result, Ok, Err, refl, sym, ap, subst, ◌∙◌}
use Rattle.std.specs.List.{AllZip, Contains}
use Rattle.std.specs.Option.{unwrap_or}
use Rattle.std.specs.Str.{bytes_eq}
use Rattle.std.specs.Prelude.{IfOk}
use Rattle.std.specs.Result.{MatchResult, result_err}
use Rattle.std.proofs.lemmas.Bool.{cases_Bool}
use Rattle.std.proofs.lemmas.List.Elements.{Contains-append_left, Contains-append_right, Contains-append_cases}
use Rattle.gm_model.specs.declared.rule.Param.{Param}
use Rattle.gm_model.specs.declared.schema.Embed.{Embed}
use Rattle.gm_model.specs.Names.{is_among}
use Rattle.gm_model.specs.Rules.{RuleNode, Assignment}
use Rattle.gm_model.specs.Trees.{Tree}
use Rattle.gm_text.specs.SchemaText.{names_in}
use Rattle.gm_parse.specs.Meaning.{Names}
use Rattle.gm_forms.specs.BookText.{SetForm, Item, NodeItem, LinkItem, RuleForm, names_of, names_for, nodes_in, nodes_of, assignments_in, sets_of, sets_in, kind_of_embed, node_in, param_of, MeansSet}
use Rattle.gm_forms.proofs.Contained.{contains_cases, contains_none}
use Rattle.gm_book.specs.declared.names.NameFault.{NameFault}
use Rattle.gm_book.specs.declared.names.NameFault.TheVariants.{Twice, Unknown}
use Rattle.gm_book.specs.inner.Building.{IsSoundSet, IsSoundNode, IsSoundPre, AreSoundValues}
use Rattle.gm_book.specs.inner.FirstNameFault.{IsLeast, least_of, is_before, with_items, rule_least, IsValueFault, IsSetFault, IsAssignedFault, IsPreFault, IsFaultOfValues, IsFaultInRule}
use Rattle.gm_book.proofs.Among.{own_name, same_name, or_true, among_items}
use Rattle.gm_book.proofs.CanonicalForm.{AreNew}
use Rattle.gm_book.proofs.DifferentNames.{new_mentions, not_both, rest_differ}
use Rattle.gm_book.proofs.LeastFault.{NamesFault, rule_is_least}
use Rattle.gm_book.proofs.ReadSets.{IsAssigned}
use Rattle.gm_book.proofs.RuleFaults.{node_of_set, again_from, parts_of_one, there_in_one}
use Rattle.gm_book.proofs.RuleNames.{rule_names_counted}

-- ---- what was told of an answer

pub at_ok : {A : Type 0} (P : A → Type 0) (Q : NameFault → Type 0) (r : Result A NameFault) (x : A) → r ≡ Ok x → MatchResult r P Q → P x
at_ok P Q r x is told = subst (λ (k : Result _ NameFault). MatchResult k P Q) is told

pub at_err : {A : Type 0} (P : A → Type 0) (Q : NameFault → Type 0) (r : Result A NameFault) (fault : NameFault) → r ≡ Err fault → MatchResult r P Q → Q fault
at_err P Q r fault is told = subst (λ (k : Result _ NameFault). MatchResult k P Q) is told

pub ok_at : {A : Type 0} (P : A → Type 0) (r : Result A NameFault) (x : A) → r ≡ Ok x → IfOk r P → P x
ok_at P r x is told = subst (λ (k : Result _ NameFault). IfOk k P) is told

pub least_at : {A : Type 0} (P : NameFault → Type 0) (r s : Result A NameFault) → r ≡ s → IsLeast P (result_err r) → IsLeast P (result_err s)
least_at P r s is least = subst (λ (k : Result _ NameFault). IsLeast P (result_err k)) is least

-- the first fault of all, or this one where none comes before it
pub least_or : (P : NameFault → Type 0) (first : Option NameFault) (fault : NameFault) → IsLeast P first → P fault → IsLeast P (Some (unwrap_or first fault))
least_or P (Some first) fault least found = least
least_or P None fault least found = absurd (least fault found)

-- ---- assignments and nodes

module _ (n : ℕ) (embeds : List Embed) (params : List Param) (names : Names) where
  abbrev OfSet : SetForm → NameFault → Type 0
  OfSet set fault = IsValueFault n embeds params names set.value (kind_of_embed embeds set.embed.name) fault

  sets_sound : (forms : List SetForm) (made : List Assignment) → AllZip (IsSoundSet n embeds params names) forms made → (fault : NameFault) → IsSetFault n embeds params names forms fault → ⊥
  sets_sound [] made all fault (set, among, h) = contains_none set among
  sets_sound (form ∷ forms) [] all fault h = absurd all
  sets_sound (form ∷ forms) (one ∷ made) all fault (set, among, h) = elim (contains_cases form forms set among) [
    | inl e ↦ all.0.sound fault (subst (λ (k : SetForm). OfSet k fault) (sym e) h)
    | inr behind ↦ sets_sound forms made all.1 fault (set, behind, h)
  ]

  sets_mean : (forms : List SetForm) (made : List Assignment) → AllZip (IsSoundSet n embeds params names) forms made → AllZip (MeansSet n names) forms made
  sets_mean [] [] all = tt
  sets_mean [] (one ∷ made) all = absurd all
  sets_mean (form ∷ forms) [] all = absurd all
  sets_mean (form ∷ forms) (one ∷ made) all = (all.0.means, sets_mean forms made all.1)

  module _ (rule : RuleForm) where
    pub nodes_mean : (labels : List (List ℕ)) (nodes : List RuleNode) → AllZip (IsSoundNode n embeds params names rule) labels nodes → AllZip (IsAssigned n names rule) labels nodes
    nodes_mean [] [] all = tt
    nodes_mean [] (node ∷ nodes) all = absurd all
    nodes_mean (label ∷ labels) [] all = absurd all
    nodes_mean (label ∷ labels) (node ∷ nodes) all = (record { sets = sets_mean (sets_in rule.right label) node.sets all.0.sets; same = all.0.same }, nodes_mean labels nodes all.1)

    nodes_sound : (labels : List (List ℕ)) (nodes : List RuleNode) → AllZip (IsSoundNode n embeds params names rule) labels nodes → (name : List ℕ) → is_among labels name ≡ true → (fault : NameFault) → IsSetFault n embeds params names (sets_in rule.right name) fault → ⊥
    nodes_sound [] nodes all name among fault h = absurd cc
    nodes_sound (label ∷ labels) [] all name among fault h = absurd all
    nodes_sound (label ∷ labels) (node ∷ nodes) all name among fault h = elim (cases_Bool (bytes_eq name label)) [
      | inl same ↦ (let e : name ≡ label = same_name name label same in sets_sound (sets_in rule.right label) node.sets all.0.sets fault (subst (λ (x : List ℕ). IsSetFault n embeds params names (sets_in rule.right x) fault) e h))
      | inr other ↦ nodes_sound labels nodes all.1 name (ap (λ b. b || is_among labels name) (sym other) ∙ among) fault h
    ]

  pub node_sound : (rule : RuleForm) (name : List ℕ) (node : RuleNode) (sets : List Assignment) → node ≡ node_in rule (λ _. sets) name → AllZip (IsSoundSet n embeds params names) (sets_in rule.right name) sets → IsSoundNode n embeds params names rule name node
  node_sound rule name node sets is all =
      let same : sets ≡ node.sets = sym (ap (λ (made : RuleNode). made.sets) is) in
      record {
        sets = subst (AllZip (IsSoundSet n embeds params names) (sets_in rule.right name)) same all;
        same = is ∙ ap (λ (made : List Assignment). node_in rule (λ _. made) name) same;
      }

-- what was read under the names that were lent
module _ (n : ℕ) (embeds : List Embed) (rule : RuleForm) (params : List Param) (names : Names) (declared : params ≡ map param_of rule.params) (same : names ≡ names_for embeds rule) where
  pub values_of : (keys : List (List ℕ)) (nodes : List RuleNode) (pre : Option Tree) → keys ≡ nodes_of rule → AllZip (IsSoundNode n embeds params names rule) keys nodes → IsSoundPre n embeds params names rule.pre pre → AreSoundValues n embeds rule nodes pre
  values_of keys nodes pre numbered all holds = record {
    nodes_are = subst (λ (labels : List (List ℕ)). AllZip (IsSoundNode n embeds (map param_of rule.params) (names_for embeds rule) rule) labels nodes) numbered
        (subst (λ (ns : Names). AllZip (IsSoundNode n embeds (map param_of rule.params) ns rule) keys nodes) same (subst (λ (ps : List Param). AllZip (IsSoundNode n embeds ps names rule) keys nodes) declared all));
    pre_is = subst (λ (ns : Names). IsSoundPre n embeds (map param_of rule.params) ns rule.pre pre) same (subst (λ (ps : List Param). IsSoundPre n embeds ps names rule.pre pre) declared holds);
  }

  pub set_fault_in : (fault : NameFault) → IsAssignedFault n embeds params names rule.right fault → IsFaultOfValues n embeds rule fault
  set_fault_in fault h = inl (subst (λ (ns : Names). IsAssignedFault n embeds (map param_of rule.params) ns rule.right fault) same (subst (λ (ps : List Param). IsAssignedFault n embeds ps names rule.right fault) declared h))

  pub pre_fault_in : (fault : NameFault) → IsPreFault n embeds params names rule.pre fault → IsFaultOfValues n embeds rule fault
  pre_fault_in fault h = inr (subst (λ (ns : Names). IsPreFault n embeds (map param_of rule.params) ns rule.pre fault) same (subst (λ (ps : List Param). IsPreFault n embeds ps names rule.pre fault) declared h))

-- ---- each assignment is one of a node's

pub sets_of_name : (items : List Item) (name : List ℕ) (set : SetForm) → Contains (sets_in items name) set → Contains (assignments_in items) set
sets_of_name [] name set there = absurd (contains_none set there)
sets_of_name (NodeItem node word hook sets ∷ items) name set there = go (bytes_eq name node.name) there (λ behind. sets_of_name items name set behind)
  where
    go : (b : Bool) → Contains (if b then sets else sets_in items name) set → (Contains (sets_in items name) set → Contains (assignments_in items) set) → Contains (sets ++ assignments_in items) set
    go true there later = Contains-append_left sets (assignments_in items) set there
    go false there later = Contains-append_right sets (assignments_in items) set (later there)
sets_of_name (LinkItem from label to ∷ items) name set there = sets_of_name items name set there

pub set_fault_of : (n : ℕ) (embeds : List Embed) (params : List Param) (names : Names) (items : List Item) (name : List ℕ) (fault : NameFault) → IsSetFault n embeds params names (sets_in items name) fault → IsAssignedFault n embeds params names items fault
set_fault_of n embeds params names items name fault (set, among, h) = (set, sets_of_name items name set among, h)

record IsNamed (items : List Item) (set : SetForm) : Type 0 where
  name : List ℕ
  among : is_among (names_of (nodes_in items)) name ≡ true
  has : Contains (sets_in items name) set

set_named : (seen : List (List ℕ)) (items : List Item) → AreNew seen (names_of (nodes_in items)) → (set : SetForm) → Contains (assignments_in items) set → IsNamed items set
set_named seen [] new set there = absurd (contains_none set there)
set_named seen (NodeItem node word hook sets ∷ items) new set there = elim (Contains-append_cases sets (assignments_in items) set there) [
  | inl here ↦ record { name = node.name; among = rw (own_name node.name) refl; has = rw (own_name node.name) here }
  | inr behind ↦ (
      let one = set_named (seen ++ node.name ∷ []) items new.1 set behind in
      let other : bytes_eq one.name node.name ≡ false = elim (cases_Bool (bytes_eq one.name node.name)) [
        | inl same ↦ absurd (not_both (is_among (names_of (nodes_in items)) node.name) (ap (is_among (names_of (nodes_in items))) (sym (same_name one.name node.name same)) ∙ one.among) (rest_differ seen (names_of (nodes_in items)) node.name new))
        | inr differ ↦ differ
      ] in
      record { name = one.name; among = rw other one.among; has = rw other one.has })
]
set_named seen (LinkItem from label to ∷ items) new set there = let one = set_named seen items new set there in record { name = one.name; among = one.among; has = one.has }

-- ---- a rule

module _ (n : ℕ) (embeds : List Embed) (rule : RuleForm) where
  abbrev names_embeds : List (List ℕ)
  names_embeds = names_in embeds

  module _ (none : rule_least names_embeds rule ≡ None) where
    no_names : (fault : NameFault) → NamesFault names_embeds rule fault → ⊥
    no_names = subst (IsLeast (NamesFault names_embeds rule)) none (rule_is_least names_embeds rule)

    pub embed_there : (set : SetForm) → Contains (assignments_in rule.right) set → is_among names_embeds set.embed.name ≡ true
    embed_there set there = elim (cases_Bool (is_among names_embeds set.embed.name)) [
      | inl known ↦ known
      | inr unknown ↦ (let (sets, of, among) = node_of_set (sets_of rule.right) set there in absurd (no_names (Unknown set.embed.place) (inr (inl (sets, of, inr (set, among, (refl, unknown)))))))
    ]

    nodes_new : AreNew [] (names_of (nodes_in rule.right))
    nodes_new = new_mentions [] (nodes_in rule.right) (λ place again. no_names (Twice place) (inr (inr (inr (inl (again_from (nodes_in rule.right) place (Twice place) again refl))))))

    right_among : (name : List ℕ) → is_among (names_of (nodes_in rule.right)) name ≡ true → is_among (nodes_of rule) name ≡ true
    right_among name there =
        ap (λ names. is_among names name) (sym (rule_names_counted rule)) ∙ among_items rule.right (with_items [] rule.left) name
        ∙ ap (λ b. is_among (with_items [] rule.left) name || b) there ∙ or_true (is_among (with_items [] rule.left) name)

    values_sound : (nodes : List RuleNode) (pre : Option Tree) → AreSoundValues n embeds rule nodes pre → (fault : NameFault) → IsFaultOfValues n embeds rule fault → ⊥
    values_sound nodes pre values fault (inl (set, there, h)) =
        let one = set_named [] rule.right nodes_new set there in
        nodes_sound n embeds (map param_of rule.params) (names_for embeds rule) rule (nodes_of rule) nodes values.nodes_are one.name (right_among one.name one.among) fault (set, one.has, h)
    values_sound nodes pre values fault (inr h) = values.pre_is.sound fault h

    pub rule_sound : (nodes : List RuleNode) (pre : Option Tree) → AreSoundValues n embeds rule nodes pre → (fault : NameFault) → IsFaultInRule n embeds rule fault → ⊥
    rule_sound nodes pre values fault h = elim (parts_of_one n embeds rule fault h) [
      | inl names ↦ no_names fault names
      | inr value ↦ values_sound nodes pre values fault value
    ]

  pub values_fault_there : (fault : NameFault) → IsFaultOfValues n embeds rule fault → IsFaultInRule n embeds rule fault
  values_fault_there fault h = there_in_one n embeds rule fault (inr h)

  pub names_fault_there : (fault : NameFault) → Some fault ≡ rule_least names_embeds rule → IsFaultInRule n embeds rule fault
  names_fault_there fault is = there_in_one n embeds rule fault (inl (subst (IsLeast (NamesFault names_embeds rule)) (sym is) (rule_is_least names_embeds rule)).0)

-- ---- first faults

-- where one fault is known, there is a first
pub first_or : {P : NameFault → Type 0} (first : Option NameFault) (fault : NameFault) → P fault → IsLeast P first → IsLeast P (Some (unwrap_or first fault))
first_or None fault there least = absurd (least fault there)
first_or (Some first) fault there least = least

pub earlier_or : (again : Option NameFault) (fault : NameFault) → least_of again (Some fault) ≡ Some (unwrap_or (least_of again (Some fault)) fault)
earlier_or None fault = refl
earlier_or (Some other) fault = go (is_before fault other) refl
  where
    go : (b : Bool) → is_before fault other ≡ b → (if is_before fault other then Some fault else Some other) ≡ Some (unwrap_or (if is_before fault other then Some fault else Some other) fault)
    go true is = rw is refl
    go false is = rw is refl

pub never_less : (old : Option NameFault) (fault : NameFault) → least_of old (Some fault) ≡ None → ⊥
never_less None fault none = absurd cc
never_less (Some other) fault none = go (is_before fault other) refl
  where
    go : (b : Bool) → is_before fault other ≡ b → ⊥
    go true is = let e : Some fault ≡ None = ap (λ b. if b then Some fault else Some other) (sym is) ∙ none in absurd cc
    go false is = let e : Some other ≡ None = ap (λ b. if b then Some fault else Some other) (sym is) ∙ none in absurd cc
