-- The expressions of a rule that a text stands for can be written.
use Rattle.std.proofs.Common.{◌≡◌, ◌≢◌, ℕ, ◌≤◌, Bool, true, false, cond, List, [], ◌∷◌, ◌++◌, map, Option, Some, None, inl, inr, ◌⊎◌, refl, sym, ap, subst, ◌∙◌, append_assoc}
use Rattle.std.specs.Prelude.{slice_get, IsTrue}
use Rattle.std.specs.List.{flat_map, position, AllByRecursion, AllZip, Contains}
use Rattle.std.specs.Option.{option_map, option_and_then, unwrap_or}
use Rattle.std.specs.Str.{bytes_eq}
use Rattle.std.proofs.lemmas.List.Elements.{Contains-append_left, Contains-append_right}
use Rattle.std.proofs.lemmas.Option.{slice_get_within}
use Rattle.std.proofs.lemmas.Slice.Eq.{bytes_eq-Decides}
use Rattle.gm_model.specs.declared.rule.Param.{Param}
use Rattle.gm_model.specs.declared.schema.Embed.{Embed}
use Rattle.gm_model.specs.declared.schema.Schema.{Schema}
use Rattle.gm_model.specs.declared.value.Kind.{Kind}
use Rattle.gm_model.specs.declared.value.Kind.TheVariants as kinds
use Rattle.gm_model.specs.Kinds.{embed_kind, param_kinds, tree_kind}
use Rattle.gm_model.specs.Names.{Mention, is_among}
use Rattle.gm_model.specs.Reading.{Part}
use Rattle.gm_model.specs.Rules.{Rule, Assignment}
use Rattle.gm_model.specs.Trees.{Tree}
use Rattle.gm_parse.specs.Meaning as meaning
use Rattle.gm_parse.specs.Meaning.{Names, faults_in, tree_in}
use Rattle.gm_parse.specs.Spelling.{Counted, limit_in, parts_of}
use Rattle.gm_expr.specs.ExprText.{embed_name}
use Rattle.gm_expr.specs.inner.Writable as trees
use Rattle.gm_expr.proofs.CanonicalLength.{tree_within}
use Rattle.gm_expr.proofs.ReadWritable.{can_form}
use Rattle.gm_expr.specs.inner.Writable.{left_name_of}
use Rattle.gm_tree.proofs.ReadForms.{within_small}
use Rattle.gm_tree.proofs.ReadTrees.{found, mapped}
use Rattle.gm_forms.specs.BookText.{ExprToken, SetForm, Item, NodeItem, LinkItem, ParamForm, RuleForm, part_of, sets_of, assignments_in, embeds_in, names_of, nodes_of, node_in, word_in, sets_in, names_for, param_of, kind_of_embed, rule_in, IsAgain, IsValueIn, SetValue, PreValue, HasOtherKind, MeansTree, MeansSet, MeansPre, MeansRule, SetTwice, SetUnknown, ValueFault, SetKind, PreKind}
use Rattle.gm_forms.proofs.Contained.{contains_behind, contains_cases, contains_here, contains_none}
use Rattle.gm_book.proofs.CanonicalFaults.{HasNoExprFault}
use Rattle.gm_book.proofs.CanonicalForm.{AreNew, set_names, IsGoodValue, IsGoodSet, HasGoodSets, HasGoodExprs, IsWritable}
use Rattle.gm_book.proofs.CanonicalKnown.{left_names}
use Rattle.gm_book.proofs.CanonicalText.{good_names}
use Rattle.gm_book.proofs.DifferentNames.{among_last, new_mentions, no_again}
use Rattle.gm_book.proofs.GoodEmbeds.{AreGoodEmbeds}
use Rattle.gm_book.proofs.OneValue.{AreWithin}
use Rattle.gm_book.proofs.ReadLimits.{IsGoodItem, IsGoodPre, IsGoodSet as IsGoodSetForm, IsReadable}
use Rattle.gm_book.proofs.ReadRules.{rule_writable}
use Rattle.gm_book.proofs.ValuesWithin.{AreSetsWithin, IsPreWithin}
use Rattle.gm_book.specs.inner.Building.{HasNoFaultInRules}

-- ---- kinds

-- what is no other kind is the kind
kind_decided : (found : Option Kind) (kind : Kind) → (found ≢ Some kind → ⊥) → found ≡ Some kind
kind_decided (Some kinds.Int) kinds.Int never = refl
kind_decided (Some kinds.Bool) kinds.Bool never = refl
kind_decided (Some kinds.Vec2) kinds.Vec2 never = refl
kind_decided (Some kinds.Vec3) kinds.Vec3 never = refl
kind_decided (Some kinds.Rgb) kinds.Rgb never = refl
kind_decided found kind never = absurd (never (λ e. absurd cc))

-- ---- the assignments of a node

-- those of a name are none, or those of a mention
sets_among : (items : List Item) (name : List ℕ) → (sets_in items name ≡ []) ⊎ Contains (sets_of items) (sets_in items name)
sets_among [] name = inl refl
sets_among (LinkItem from label to ∷ items) name = sets_among items name
sets_among (NodeItem node word hook sets ∷ items) name = go (bytes_eq name node.name) (sets_among items name)
  where
    go : (b : Bool) → (sets_in items name ≡ []) ⊎ Contains (sets_of items) (sets_in items name) → (cond b sets (sets_in items name) ≡ []) ⊎ Contains (sets ∷ sets_of items) (cond b sets (sets_in items name))
    go true rest = inr (contains_here sets (sets_of items))
    go false (inl none) = inl none
    go false (inr among) = inr (contains_behind sets (sets_of items) _ among)

-- no word, no assignments
unset : (items : List Item) (name : List ℕ) → word_in items name ≡ None → sets_in items name ≡ []
unset [] name none = refl
unset (LinkItem from label to ∷ items) name none = unset items name none
unset (NodeItem node word hook sets ∷ items) name none = go (bytes_eq name node.name) (unset items name) none
  where
    go : (b : Bool) → (word_in items name ≡ None → sets_in items name ≡ []) → cond b (Some word) (word_in items name) ≡ None → cond b sets (sets_in items name) ≡ []
    go true rest none = absurd cc
    go false rest none = rest none

in_flat : {X : Type 0} (lists : List (List X)) (xs : List X) (x : X) → Contains lists xs → Contains xs x → Contains (flat_map (λ (ys : List X). ys) lists) x
in_flat [] xs x among there = absurd (contains_none xs among)
in_flat (ys ∷ lists) xs x among there = elim (contains_cases ys lists xs among) [
  | inl e ↦ Contains-append_left ys (flat_map (λ (zs : List _). zs) lists) x (subst (λ zs. Contains zs x) (sym e) there)
  | inr behind ↦ Contains-append_right ys (flat_map (λ (zs : List _). zs) lists) x (in_flat lists xs x behind there)
]

zip_none : {A B : Type 0} (R : A → B → Type 0) (ys : List B) → AllZip R [] ys → ys ≡ []
zip_none R [] all = refl
zip_none R (y ∷ ys) all = absurd all

nothing_again : (mentions : List Mention) (place : ℕ) → mentions ≡ [] → IsAgain mentions place → ⊥
nothing_again mentions place none again = no_again mentions place (subst (λ (ms : List Mention). AreNew [] (names_of ms)) (sym none) tt) again

-- ---- expressions

-- the one with the name, where the names are those of a list
found_named : {A : Type 0} (name_of : A → List ℕ) (xs : List A) (k : ℕ) (name : List ℕ) → position (bytes_eq name) (map name_of xs) ≡ Some k → (x : A) × (slice_get xs k ≡ Some x) × (bytes_eq name (name_of x) ≡ true)
found_named name_of xs k name e =
    let (other, at, holds) = found (bytes_eq name) (map name_of xs) k e in
    let (x, there, is) = mapped name_of xs k other at in
    (x, there, ap (bytes_eq name) is ∙ holds)

within_form : (tokens : List ExprToken) (parts : List (Part Counted)) → map part_of tokens ≡ parts → AreWithin tokens → AllByRecursion (λ (part : Part Counted). limit_in part.role part.symbol ≡ None) parts
within_form tokens parts spelled within = subst (AllByRecursion (λ (part : Part Counted). limit_in part.role part.symbol ≡ None)) spelled (go tokens within)
  where
    go : (tokens : List ExprToken) → AreWithin tokens → AllByRecursion (λ (part : Part Counted). limit_in part.role part.symbol ≡ None) (map part_of tokens)
    go [] within = tt
    go (token ∷ tokens) within = (within.0, go tokens within.1)

no_faults : (faults : List meaning.NameFault) → ((fault : meaning.NameFault) → Contains faults fault → ⊥) → faults ≡ []
no_faults [] never = refl
no_faults (fault ∷ faults) never = absurd (never fault (contains_here fault faults))

param_names_of : (params : List ParamForm) → map (λ (param : ParamForm). param.name.name) params ≡ map (λ (param : Param). param.name) (map param_of params)
param_names_of [] = refl
param_names_of (param ∷ params) = ap (λ names. param.name.name ∷ names) (param_names_of params)

-- the rule of a form, where no fault is found in its expressions
module _ (schema : Schema) (low : schema.dim ≤ 7) (embeds : AreGoodEmbeds schema.embeds) (form : RuleForm) (sets : List ℕ → List Assignment) (pre : Option Tree) (ok : IsWritable schema.dim (rule_in sets pre form)) (sound : HasNoExprFault schema.dim schema.embeds form) where
  abbrev rule : Rule
  rule = rule_in sets pre form

  abbrev known : Names
  known = names_for schema.embeds form

  nodes_are : known.nodes ≡ map left_name_of rule.nodes
  nodes_are = sym (left_names form sets (nodes_of form))

  value_good : (tokens : List ExprToken) (tree : Tree) (kind : Kind) → AreWithin tokens → MeansTree schema.dim known tokens tree → IsValueIn form tokens → (HasOtherKind schema.dim schema.embeds form tokens kind → ⊥) → IsGoodValue schema rule tree (Some kind)
  value_good tokens tree kind within means among never =
      let names = good_names schema rule embeds.good ok in
      let none : faults_in known means.form ≡ [] = no_faults (faults_in known means.form) (λ fault there. sound.value tokens means.form fault among means.value there) in
      let parts = within_form tokens (parts_of schema.dim means.form) means.value.spelled within in
      let can = subst (trees.IsWritable schema.embeds rule.params rule.nodes schema.dim) (sym means.means) (can_form schema.embeds rule.params rule.nodes schema.dim known refl (param_names_of form.params) nodes_are means.form none (within_small schema.dim means.form parts)) in
      record {
        can = can;
        short = tree_within schema.embeds rule.params rule.nodes names schema.dim known means.form tree means.value.good means.means parts can;
        kind_is = kind_decided (tree_kind schema.embeds (param_kinds rule.params) tree) kind (λ other. never (record {
          form = means.form;
          value = means.value;
          known = none;
          other = λ same. other (ap (tree_kind schema.embeds (param_kinds rule.params)) means.means ∙ same);
        }));
      }

  set_good : (set : SetForm) (assignment : Assignment) → AreWithin set.value → Contains (assignments_in form.right) set → MeansSet schema.dim known set assignment → IsGoodSet schema rule assignment × (embed_name schema.embeds assignment.embed ≡ set.embed.name)
  set_good set assignment within among means =
      let (embed, there, holds) = found_named (λ (e : Embed). e.name) schema.embeds assignment.embed set.embed.name means.embed in
      let named : set.embed.name ≡ embed.name = (bytes_eq-Decides set.embed.name embed.name).0 holds in
      let kind : embed_kind schema.embeds (param_kinds rule.params) assignment.embed ≡ Some embed.kind = ap (option_map (λ (e : Embed). e.kind)) there in
      let needed : kind_of_embed schema.embeds set.embed.name ≡ Some embed.kind = ap (option_and_then (λ e. option_map (λ (other : Embed). other.kind) (slice_get schema.embeds e))) means.embed ∙ kind in
      let value = value_good set.value assignment.tree embed.kind within means.tree (SetValue set among refl) (sound.set_kind set embed.kind among needed) in (
        record { embed = slice_get_within schema.embeds assignment.embed embed there; value = subst (IsGoodValue schema rule assignment.tree) (sym kind) value },
        ap (λ found. unwrap_or (option_map (λ (e : Embed). e.name) found) []) there ∙ sym named,
      )

  sets_good : (forms : List SetForm) (assignments : List Assignment) → AreSetsWithin forms → ((set : SetForm) → Contains forms set → Contains (assignments_in form.right) set) → AllZip (MeansSet schema.dim known) forms assignments
      → AllByRecursion (IsGoodSet schema rule) assignments × (names_of (embeds_in forms) ≡ set_names schema assignments)
  sets_good [] [] within among means = (tt, refl)
  sets_good [] (assignment ∷ assignments) within among means = absurd means
  sets_good (set ∷ forms) [] within among means = absurd means
  sets_good (set ∷ forms) (assignment ∷ assignments) within among means =
      let (first, name) = set_good set assignment within.0 (among set (contains_here set forms)) means.0 in
      let (others, names) = sets_good forms assignments within.1 (λ other there. among other (contains_behind set forms other there)) means.1 in
      ((first, others), ap (λ n. n ∷ names_of (embeds_in forms)) (sym name) ∙ ap (λ ns. embed_name schema.embeds assignment.embed ∷ ns) names)

  node_good : (name : List ℕ) → AreSetsWithin (sets_in form.right name) → AllZip (MeansSet schema.dim known) (sets_in form.right name) (sets name) → HasGoodSets schema rule (node_in form sets name)
  node_good name within means =
      let (each, names) = sets_good (sets_in form.right name) (sets name) within among means in
      record {
        each = each;
        differ = subst (AreNew []) names (new_mentions [] (embeds_in (sets_in form.right name)) once);
        on_right = λ none. zip_none (MeansSet schema.dim known) (sets name) (subst (λ forms. AllZip (MeansSet schema.dim known) forms (sets name)) (unset form.right name none) means);
      }
    where
      among : (set : SetForm) → Contains (sets_in form.right name) set → Contains (assignments_in form.right) set
      among set there = elim (sets_among form.right name) [
        | inl none ↦ absurd (contains_none set (subst (λ forms. Contains forms set) none there))
        | inr inside ↦ in_flat (sets_of form.right) (sets_in form.right name) set inside there
      ]

      once : (place : ℕ) → IsAgain (embeds_in (sets_in form.right name)) place → ⊥
      once place again = elim (sets_among form.right name) [
        | inl none ↦ nothing_again (embeds_in (sets_in form.right name)) place (ap embeds_in none) again
        | inr inside ↦ sound.set_twice (sets_in form.right name) place inside again
      ]

  nodes_good : (names : List (List ℕ)) → ((name : List ℕ) → AreSetsWithin (sets_in form.right name)) → AllByRecursion (λ name. AllZip (MeansSet schema.dim known) (sets_in form.right name) (sets name)) names
      → AllByRecursion (HasGoodSets schema rule) (map (node_in form sets) names)
  nodes_good [] within means = tt
  nodes_good (name ∷ names) within means = (node_good name (within name) means.0, nodes_good names within means.1)

  pre_good : (tokens : Option (List ExprToken)) → form.pre ≡ tokens → IsPreWithin tokens → MeansPre schema.dim known tokens pre → (tree : Tree) → pre ≡ Some tree → IsGoodValue schema rule tree (Some kinds.Bool)
  pre_good None is within means tree there = let none : None ≡ Some tree = sym means ∙ there in absurd cc
  pre_good (Some tokens) is within (other, here, means) tree there =
      let both : Some other ≡ Some tree = sym here ∙ there in
      let same : other ≡ tree = cc both in
      subst (λ t. IsGoodValue schema rule t (Some kinds.Bool)) same (value_good tokens other kinds.Bool within means (PreValue is) (sound.pre_kind tokens is))

-- ---- from what was read

sets_read : (n : ℕ) (items : List Item) (name : List ℕ) → AllByRecursion (IsGoodItem n) items → AreSetsWithin (sets_in items name)
sets_read n [] name good = tt
sets_read n (LinkItem from label to ∷ items) name good = sets_read n items name good.1
sets_read n (NodeItem node word hook sets ∷ items) name good = go (bytes_eq name node.name) (all_within sets good.0.2) (sets_read n items name good.1)
  where
    all_within : (sets : List SetForm) → AllByRecursion IsGoodSetForm sets → AreSetsWithin sets
    all_within [] all = tt
    all_within (set ∷ sets) all = (all.0.1, all_within sets all.1)

    go : (b : Bool) → AreSetsWithin sets → AreSetsWithin (sets_in items name) → AreSetsWithin (cond b sets (sets_in items name))
    go true here there = here
    go false here there = there

pre_read : (pre : Option (List ExprToken)) → IsGoodPre pre → IsPreWithin pre
pre_read None good = tt
pre_read (Some tokens) good = good

each_named : (P : List ℕ → Type 0) (all front names : List (List ℕ)) → all ≡ front ++ names → ((name : List ℕ) → IsTrue (is_among all name) → P name) → AllByRecursion P names
each_named P all front [] split gives = tt
each_named P all front (name ∷ names) split gives =
    (gives name (ap (λ ns. is_among ns name) split ∙ among_last front names name), each_named P all (front ++ name ∷ []) names (split ∙ sym (append_assoc front (name ∷ []) names)) gives)

no_expr_fault : (n : ℕ) (embeds : List Embed) (form : RuleForm) → HasNoFaultInRules n embeds (form ∷ []) → HasNoExprFault n embeds form
no_expr_fault n embeds form sound = record {
  set_twice = λ sets place among again. sound _ (SetTwice form sets place (contains_here form []) among again);
  set_unknown = λ set among unknown. sound _ (SetUnknown form set (contains_here form []) among unknown);
  value = λ tokens expr fault among value there. sound _ (ValueFault form tokens expr fault (contains_here form []) among value there);
  set_kind = λ set kind among needed other. sound _ (SetKind form set kind (contains_here form []) among needed other);
  pre_kind = λ tokens is other. sound _ (PreKind form tokens (contains_here form []) is other);
}

pub exprs_read : (schema : Schema) (form : RuleForm) (rule : Rule) → AreGoodEmbeds schema.embeds → schema.dim ≤ 7 → MeansRule schema.dim schema.embeds form rule → IsReadable schema.dim form → HasNoFaultInRules schema.dim schema.embeds (form ∷ []) → HasGoodExprs schema rule
exprs_read schema form rule embeds low means ok sound =
    let can = subst (IsWritable schema.dim) means.same (rule_writable schema.dim schema.embeds form rule means ok sound) in
    let none = no_expr_fault schema.dim schema.embeds form sound in
    let each = each_named (λ name. AllZip (MeansSet schema.dim (names_for schema.embeds form)) (sets_in form.right name) (means.sets name)) (nodes_of form) [] (nodes_of form) refl means.each in
    subst (HasGoodExprs schema) (sym means.same) (record {
      sets = nodes_good schema low embeds form means.sets means.pre can none (nodes_of form) (λ name. sets_read schema.dim form.right name ok.right) each;
      pre = pre_good schema low embeds form means.sets means.pre can none form.pre refl (pre_read form.pre ok.pre) means.holds;
    })
