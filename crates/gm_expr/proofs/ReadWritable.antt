-- A tree that was read can be written.
use Rattle.std.proofs.Common.{◌≡◌, ℕ, Bool, true, false, if◌then◌else◌, List, [], ◌∷◌, ◌++◌, map, Option, Some, None, is_some, refl, sym, ap, subst, ◌∙◌}
use Rattle.std.specs.Prelude.{slice_get}
use Rattle.std.specs.List.{AllByRecursion, position}
use Rattle.std.specs.Option.{option_map, unwrap_or}
use Rattle.std.specs.Str.{bytes_eq}
use Rattle.std.proofs.lemmas.Slice.Eq.{bytes_eq-Decides}
use Rattle.gm_model.specs.declared.rule.Param.{Param}
use Rattle.gm_model.specs.declared.schema.Embed.{Embed}
use Rattle.gm_model.specs.Names.{Mention}
use Rattle.gm_model.specs.Rules.{RuleNode, name_at}
use Rattle.gm_model.specs.Trees.{Tree}
use Rattle.gm_text.specs.inner.Cursor.{Cursor}
use Rattle.gm_text.specs.SchemaText.{LabelForm}
use Rattle.gm_text.specs.inner.SchemaAnswers.{marks_left}
use Rattle.gm_parse.specs.declared.function.Function.{Function}
use Rattle.gm_parse.specs.declared.function.Function.TheVariants as functions
use Rattle.gm_parse.specs.declared.key.Collector.{Collector}
use Rattle.gm_parse.specs.declared.key.Collector.TheVariants as collectors
use Rattle.gm_parse.specs.inner.Answers.{IsExprRead}
use Rattle.gm_parse.specs.Forms.{TermForm, Form, NumberForm, TruthForm, ParamForm, FieldForm, SameForm, CountForm, CollectForm, CallForm, ParenForm, MinusForm, NotForm, BinaryForm, IfForm, Arguments, First, Further, count_of}
use Rattle.gm_parse.specs.Meaning.{Names, NameFault, is_named, number_of, node_number, embed_number, param_number, unknown, function_named, function_of, orbit_faults, term_faults, field_faults, faults_in, argument_faults, mask_of, collect, call_of, term_in, embed_in, tree_in, trees_in}
use Rattle.gm_tree.specs.inner.Small.{IsSmall, AreSmall, IsSmallPath, IsSmallOrbit}
use Rattle.gm_tree.proofs.ReadForms.{stands_small}
use Rattle.gm_expr.specs.inner.Writable.{left_name_of, IsGoodParam, IsGoodEmbed, IsGoodTerm, IsWritable}
use Rattle.gm_expr.proofs.Found.{found, mapped}
use Rattle.gm_expr.proofs.MaskLabels.{low_labels}

-- ---- what a name stands for

known : {A : Type 0} (mention : Mention) (number : Option A) → unknown mention number ≡ [] → (k : A) × (number ≡ Some k)
known mention None e = absurd cc
known mention (Some k) e = (k, refl)

left_named : (name : List ℕ) (node : RuleNode) → is_named name (left_name_of node) ≡ true → name ≡ node.name
left_named name node e = go (is_some node.left) e
  where
    go : (b : Bool) → is_named name (if b then Some node.name else None) ≡ true → name ≡ node.name
    go true e = (bytes_eq-Decides name node.name).0 e
    go false e = absurd cc

both_none : (xs ys : List NameFault) → xs ++ ys ≡ [] → (xs ≡ []) × (ys ≡ [])
both_none [] ys e = (refl, e)
both_none (x ∷ xs) ys e = absurd cc

all_behind : (P : Tree → Type 0) (trees : List Tree) (tree : Tree) → AllByRecursion P trees → P tree → AllByRecursion P (trees ++ tree ∷ [])
all_behind P [] tree all one = (one, tt)
all_behind P (first ∷ trees) tree all one = (all.0, all_behind P trees tree all.1 one)

-- ---- trees

module _ (embeds : List Embed) (params : List Param) (nodes : List RuleNode) (n : ℕ) where
  abbrev Can : Tree → Type 0
  Can = IsWritable embeds params nodes n

  can_collect : (collector : Collector) (orbit : List LabelForm) (names : Names) (term : TermForm) (embed : Mention) → IsSmallOrbit n orbit → IsGoodTerm embeds params nodes n (term_in names term) → IsGoodEmbed embeds params nodes (embed_in names embed)
      → Can (collect collector (mask_of orbit) (term_in names term) (embed_in names embed))
  can_collect collectors.Sum orbit names term embed small at field = (low_labels n orbit small, at, field)
  can_collect collectors.Least orbit names term embed small at field = (low_labels n orbit small, at, field)
  can_collect collectors.Greatest orbit names term embed small at field = (low_labels n orbit small, at, field)

  can_call : (function : Option Function) (trees : List Tree) → AllByRecursion Can trees → Can (call_of function trees)
  can_call None trees all = tt
  can_call (Some functions.Vec2) (a ∷ b ∷ []) all = (all.0, all.1.0)
  can_call (Some functions.Vec3) (a ∷ b ∷ c ∷ []) all = (all.0, all.1.0, all.1.1.0)
  can_call (Some functions.Rgb) (a ∷ b ∷ c ∷ []) all = (all.0, all.1.0, all.1.1.0)
  can_call (Some (functions.Part op)) (a ∷ []) all = all.0
  can_call _ _ all = tt

  module _ (names : Names) (embeds_are : names.embeds ≡ map (λ (embed : Embed). embed.name) embeds) (params_are : names.params ≡ map (λ (param : Param). param.name) params) (nodes_are : names.nodes ≡ map left_name_of nodes) where
    can_term : (term : TermForm) → term_faults names term ≡ [] → IsSmallPath n term.path → IsGoodTerm embeds params nodes n (term_in names term)
    can_term term none small =
        let (k, number) = known term.node (node_number names term.node) none in
        let (name, at, holds) = found (is_named term.node.name) names.nodes k number in
        let (node, there, is) = mapped left_name_of nodes k name (ap (λ (list : List (Option (List ℕ))). slice_get list k) (sym nodes_are) ∙ at) in
        let named : term.node.name ≡ node.name = left_named term.node.name node (ap (is_named term.node.name) is ∙ holds) in
        let at_k : name_at nodes k ≡ term.node.name = ap (λ (o : Option RuleNode). unwrap_or (option_map (λ (x : RuleNode). x.name) o) []) there ∙ sym named in
        let same : unwrap_or (node_number names term.node) 0 ≡ k = ap (λ (o : Option ℕ). unwrap_or o 0) number in
        let leads : position (is_named (name_at nodes k)) (map left_name_of nodes) ≡ Some k = ap (λ (w : List ℕ). position (is_named w) (map left_name_of nodes)) at_k ∙ ap (position (is_named term.node.name)) (sym nodes_are) ∙ number in
        (subst (λ (m : ℕ). position (is_named (name_at nodes m)) (map left_name_of nodes) ≡ Some m) (sym same) leads, small)

    -- of the things with these names
    can_name : {A : Type 0} (name_of : A → List ℕ) (xs : List A) (all : List (List ℕ)) (mention : Mention) → all ≡ map name_of xs → unknown mention (number_of all mention.name) ≡ []
        → let m = unwrap_or (number_of all mention.name) 0 in position (bytes_eq (unwrap_or (option_map name_of (slice_get xs m)) [])) (map name_of xs) ≡ Some m
    can_name {A = A} name_of xs all mention are none =
        let (k, number) = known mention (number_of all mention.name) none in
        let (name, at, holds) = found (bytes_eq mention.name) all k number in
        let (x, there, is) = mapped name_of xs k name (ap (λ (list : List (List ℕ)). slice_get list k) (sym are) ∙ at) in
        let named : mention.name ≡ name = (bytes_eq-Decides mention.name name).0 holds in
        let at_k : unwrap_or (option_map name_of (slice_get xs k)) [] ≡ mention.name = ap (λ (o : Option A). unwrap_or (option_map name_of o) []) there ∙ is ∙ sym named in
        let same : unwrap_or (number_of all mention.name) 0 ≡ k = ap (λ (o : Option ℕ). unwrap_or o 0) number in
        let leads : position (bytes_eq (unwrap_or (option_map name_of (slice_get xs k)) [])) (map name_of xs) ≡ Some k = ap (λ (w : List ℕ). position (bytes_eq w) (map name_of xs)) at_k ∙ ap (position (bytes_eq mention.name)) (sym are) ∙ number in
        subst (λ (m : ℕ). position (bytes_eq (unwrap_or (option_map name_of (slice_get xs m)) [])) (map name_of xs) ≡ Some m) (sym same) leads

    can_embed : (embed : Mention) → unknown embed (embed_number names embed) ≡ [] → IsGoodEmbed embeds params nodes (embed_in names embed)
    can_embed embed none = can_name (λ (e : Embed). e.name) embeds names.embeds embed embeds_are none

    can_param : (param : Mention) → unknown param (param_number names param) ≡ [] → IsGoodParam embeds params nodes (unwrap_or (param_number names param) 0)
    can_param param none = can_name (λ (p : Param). p.name) params names.params param params_are none

    mutual
      pub can_form : (form : Form) → faults_in names form ≡ [] → IsSmall n form → IsWritable embeds params nodes n (tree_in names form)
      can_form (NumberForm value) none small = (value, refl, small)
      can_form (TruthForm b) none small = tt
      can_form (ParamForm param) none small = can_param param none
      can_form (FieldForm term embed) none small =
          let (at, field) = both_none (term_faults names term) (unknown embed (embed_number names embed)) none in
          (can_term term at small, can_embed embed field)
      can_form (SameForm one two) none small =
          let (first, second) = both_none (term_faults names one) (term_faults names two) none in
          (can_term one first small.0, can_term two second small.1)
      can_form (CountForm orbit term) none small =
          let (labels, at) = both_none (orbit_faults orbit) (term_faults names term) none in
          (low_labels n orbit small.0, can_term term at small.1)
      can_form (CollectForm collector orbit term embed) none small =
          let (labels, rest) = both_none (orbit_faults orbit) (field_faults names term embed) none in
          let (at, field) = both_none (term_faults names term) (unknown embed (embed_number names embed)) rest in
          can_collect collector orbit names term embed small.0 (can_term term at small.1) (can_embed embed field)
      can_form (CallForm function arguments) none small =
          let (inside, own) = both_none (argument_faults names arguments) (unknown function (function_of function.name (count_of arguments))) none in
          can_call (function_named function.name) (trees_in names arguments) (can_arguments arguments inside small)
      can_form (ParenForm part) none small = can_form part none small
      can_form (MinusForm part) none small = can_form part none small
      can_form (NotForm part) none small = can_form part none small
      can_form (BinaryForm op one two) none small =
          let (first, second) = both_none (faults_in names one) (faults_in names two) none in
          (can_form one first small.0, can_form two second small.1)
      can_form (IfForm c a b) none small =
          let (front, third) = both_none (faults_in names c ++ faults_in names a) (faults_in names b) none in
          let (first, second) = both_none (faults_in names c) (faults_in names a) front in
          (can_form c first small.0, can_form a second small.1, can_form b third small.2)

      can_arguments : (arguments : Arguments) → argument_faults names arguments ≡ [] → AreSmall n arguments → AllByRecursion Can (trees_in names arguments)
      can_arguments (First form) none small = (can_form form none small, tt)
      can_arguments (Further arguments form) none small =
          let (front, last) = both_none (argument_faults names arguments) (faults_in names form) none in
          all_behind Can (trees_in names arguments) (tree_in names form) (can_arguments arguments front small.0) (can_form form last small.1)

    -- with the names of the schema and the rule
    pub read_writable : (old new : Cursor) (tree : Tree) → IsExprRead n names old new tree → IsWritable embeds params nodes n tree
    read_writable old new tree read = subst (IsWritable embeds params nodes n) (sym read.means) (can_form read.form read.known (stands_small n read.form (marks_left old) (marks_left new) read.stands))
