-- The tree of an expression whose names are known: its numbers can be written, and each names something.
use Rattle.std.proofs.Common.{◌≡◌, ◌≢◌, ◌<◌, ◌≤◌, ◌^◌, max, ℕ, Bool, true, false, cond, List, [], ◌∷◌, ◌++◌, length, map, take, slice_get, get_or, Option, Some, None, refl, sym, ap, subst, ◌∙◌, arith}
use Rattle.std.proofs.lemmas.Bool.Decides.{nat_tests}
use Rattle.std.proofs.lemmas.List.{length-take, length-map, get_or-take}
use Rattle.std.proofs.lemmas.List.Quantifiers.{position-Some}
use Rattle.std.proofs.lemmas.Nat.Bits.{bit_at-zero, bit_at_or, bit_at-pow_other}
use Rattle.std.proofs.lemmas.Option.{slice_get-get_or, slice_get-map, slice_get_within}
use Rattle.std.specs.Int.{bit_at}
use Rattle.std.specs.Int.Bits.{bit_or}
use Rattle.std.specs.List.{AllByRecursion, position}
use Rattle.std.specs.Option.{option_map, unwrap_or}
use Rattle.std.specs.Prelude.{IsTrue, is_some, ◌==◌}
use Rattle.std.specs.Str.{bytes_eq}
use Rattle.gm_model.specs.declared.rule.Node.{Node}
use Rattle.gm_model.specs.declared.rule.Param.{Param}
use Rattle.gm_model.specs.declared.schema.Embed.{Embed}
use Rattle.gm_model.specs.declared.schema.Schema.{Schema}
use Rattle.gm_model.specs.declared.word.Mask.{Mask}
use Rattle.gm_model.specs.Kinds.{IsTermInRange, IsMaskInRange, IsEmbedInRange, IsTreeInRange}
use Rattle.gm_model.specs.Labels.{has}
use Rattle.gm_model.specs.Names.{Mention}
use Rattle.gm_model.specs.Rules.{Rule}
use Rattle.gm_model.specs.Trees.{Tree}
use Rattle.gm_text.specs.SchemaText.{LabelForm, no_labels, with_label, with_labels}
use Rattle.gm_parse.specs.declared.function.Function.{Function}
use Rattle.gm_parse.specs.declared.function.Function.TheVariants as functions
use Rattle.gm_parse.specs.declared.key.Collector.{Collector}
use Rattle.gm_parse.specs.declared.key.Collector.TheVariants as collectors
use Rattle.gm_parse.specs.Forms.{TermForm, Form, NumberForm, TruthForm, ParamForm, FieldForm, SameForm, CountForm, CollectForm, CallForm, ParenForm, MinusForm, NotForm, BinaryForm, IfForm, Arguments, First, Further, count_of}
use Rattle.gm_tree.specs.inner.Small.{IsSmall, AreSmall, IsSmallOrbit, IsSmallPath}
use Rattle.gm_parse.specs.inner.Answers.{HasLeftNodes}
use Rattle.gm_parse.specs.Meaning.{Names, NameFault, left_name, is_named, node_number, embed_number, param_number, unknown, function_of, function_named, orbit_faults, term_faults, field_faults, faults_in, argument_faults, mask_of, collect, call_of, term_in, embed_in, tree_in, trees_in, IsUnsigned}
use Rattle.gm_tree.specs.inner.FirstNames.{first_names}

-- ---- numbers

pub all_behind : (P : Tree → Type 0) (trees : List Tree) (tree : Tree) → AllByRecursion P trees → P tree → AllByRecursion P (trees ++ tree ∷ [])
all_behind P [] tree all one = (one, tt)
all_behind P (first ∷ trees) tree all one = (all.0, all_behind P trees tree all.1 one)

unsigned_call : (function : Option Function) (trees : List Tree) → AllByRecursion IsUnsigned trees → IsUnsigned (call_of function trees)
unsigned_call None trees all = tt
unsigned_call (Some functions.Vec2) (a ∷ b ∷ []) all = (all.0, all.1.0)
unsigned_call (Some functions.Vec3) (a ∷ b ∷ c ∷ []) all = (all.0, all.1.0, all.1.1.0)
unsigned_call (Some functions.Rgb) (a ∷ b ∷ c ∷ []) all = (all.0, all.1.0, all.1.1.0)
unsigned_call (Some (functions.Part op)) (a ∷ []) all = all.0
unsigned_call _ _ all = tt

unsigned_collect : (names : Names) (collector : Collector) (orbit : List LabelForm) (term : TermForm) (embed : Mention) → IsUnsigned (tree_in names (CollectForm collector orbit term embed))
unsigned_collect names collectors.Sum orbit term embed = tt
unsigned_collect names collectors.Least orbit term embed = tt
unsigned_collect names collectors.Greatest orbit term embed = tt

module _ (names : Names) where
  mutual
    pub unsigned : (form : Form) → IsUnsigned (tree_in names form)
    unsigned (NumberForm n) = (n, refl)
    unsigned (TruthForm b) = tt
    unsigned (ParamForm param) = tt
    unsigned (FieldForm term embed) = tt
    unsigned (SameForm left right) = tt
    unsigned (CountForm orbit term) = tt
    unsigned (CollectForm collector orbit term embed) = unsigned_collect names collector orbit term embed
    unsigned (CallForm function arguments) = unsigned_call (function_named function.name) (trees_in names arguments) (all_unsigned arguments)
    unsigned (ParenForm part) = unsigned part
    unsigned (MinusForm part) = unsigned part
    unsigned (NotForm part) = unsigned part
    unsigned (BinaryForm op left right) = (unsigned left, unsigned right)
    unsigned (IfForm c a b) = (unsigned c, unsigned a, unsigned b)

    all_unsigned : (arguments : Arguments) → AllByRecursion IsUnsigned (trees_in names arguments)
    all_unsigned (First form) = (unsigned form, tt)
    all_unsigned (Further arguments form) = all_behind IsUnsigned (trees_in names arguments) (tree_in names form) (all_unsigned arguments) (unsigned form)

-- ---- what a name stands for

pub found : {A : Type 0} (test : A → Bool) (xs : List A) (k : ℕ) → position test xs ≡ Some k → (x : A) × (slice_get xs k ≡ Some x) × (test x ≡ true)
found test [] k e = absurd cc
found test (d ∷ xs) k e = let (low, holds, first) = position-Some test (d ∷ xs) k d e in (get_or (d ∷ xs) k d, slice_get-get_or (d ∷ xs) k d low, holds)

-- among the first ones
found_first : {A : Type 0} (test : A → Bool) (xs : List A) (k : ℕ) → position test (take 256 xs) ≡ Some k → (x : A) × (slice_get xs k ≡ Some x) × (test x ≡ true)
found_first test xs k e =
    let (x, at, holds) = found test (take 256 xs) k e in
    let low : k < length (take 256 xs) = slice_get_within (take 256 xs) k x at in
    let few : k < 256 = omega (arith, low, length-take 256 xs) in
    let within : k < length xs = omega (arith, low, length-take 256 xs) in
    let both : Some (get_or (take 256 xs) k x) ≡ Some x = sym (slice_get-get_or (take 256 xs) k x low) ∙ at in
    let same : get_or (take 256 xs) k x ≡ x = cc both in
    (x, slice_get-get_or xs k x within ∙ ap Some (sym (get_or-take 256 xs k x few) ∙ same), holds)

pub known : {A : Type 0} (mention : Mention) (number : Option A) → unknown mention number ≡ [] → (k : A) × (number ≡ Some k)
known mention None e = absurd cc
known mention (Some k) e = (k, refl)

pub mapped : {A B : Type 0} (f : A → B) (xs : List A) (k : ℕ) (y : B) → slice_get (map f xs) k ≡ Some y → (x : A) × (slice_get xs k ≡ Some x) × (f x ≡ y)
mapped f xs k y e = go (slice_get xs k) refl
  where
    go : (at : Option _) → slice_get xs k ≡ at → (x : _) × (slice_get xs k ≡ Some x) × (f x ≡ y)
    go None is = let both : None ≡ Some y = sym (slice_get-map f xs k ∙ ap (option_map f) is) ∙ e in absurd cc
    go (Some x) is = let both : Some (f x) ≡ Some y = sym (slice_get-map f xs k ∙ ap (option_map f) is) ∙ e in (x, is, cc both)

left_is : (name : List ℕ) (node : Node) → is_named name (left_name node) ≡ true → IsTrue (is_some node.left)
left_is name node e = go (is_some node.left) refl e
  where
    go : (b : Bool) → is_some node.left ≡ b → is_named name (cond b (Some node.name) None) ≡ true → IsTrue (is_some node.left)
    go true is e = is
    go false is e = absurd cc

-- ---- masks

pub low_none : (n i : ℕ) → IsTrue (has no_labels i) → i ≤ n
low_none n i there = let bit : bit_at 0 i ≡ 0 = bit_at-zero i in let no_way : false ≡ true = sym (ap (λ (b : ℕ). b == 1) bit) ∙ there in absurd cc

low_more : (n label : ℕ) (mask : Mask) → ((i : ℕ) → IsTrue (has mask i) → i ≤ n) → label ≤ n → (i : ℕ) → IsTrue (has (with_label mask label) i) → i ≤ n
low_more n label mask low small i there = go (i == label) refl
  where
    go : (b : Bool) → (i == label) ≡ b → i ≤ n
    go true e = let same : i ≡ label = grind (arith, nat_tests, e) in omega (arith, same, small)
    go false e =
        let other : i ≢ label = grind (arith, nat_tests, e) in
        let bit : bit_at (bit_or mask.bits (2 ^ label)) i ≡ bit_at mask.bits i = bit_at_or mask.bits (2 ^ label) i ∙ ap (max (bit_at mask.bits i)) (bit_at-pow_other label i other) ∙ omega arith in
        low i (sym (ap (λ (b : ℕ). b == 1) bit) ∙ there)

pub low_labels : (n : ℕ) (mask : Mask) (orbit : List LabelForm) → ((i : ℕ) → IsTrue (has mask i) → i ≤ n) → IsSmallOrbit n orbit → (i : ℕ) → IsTrue (has (with_labels mask orbit) i) → i ≤ n
low_labels n mask [] low small = low
low_labels n mask (form ∷ orbit) low small = low_labels n (with_label mask form.label) orbit (low_more n form.label mask low small.0) small.1

-- ---- in range

pub none_left : (xs ys : List NameFault) → xs ++ ys ≡ [] → (xs ≡ []) × (ys ≡ [])
none_left [] ys e = (refl, e)
none_left (x ∷ xs) ys e = absurd cc

module _ (schema : Schema) (params : List Param) (nodes : List Node) (rule : Rule) (same : rule.params ≡ params) (left : HasLeftNodes nodes rule) where
  abbrev Known : Names
  Known = first_names schema params nodes

  abbrev InRange : Tree → Type 0
  InRange tree = IsTreeInRange schema rule tree

  term_range : (term : TermForm) → term_faults Known term ≡ [] → IsSmallPath schema.dim term.path → IsTermInRange schema rule (term_in Known term)
  term_range term none small =
      let (k, number) = known term.node (node_number Known term.node) none in
      let (name, at, holds) = found_first (is_named term.node.name) (map left_name nodes) k number in
      let (node, there, is) = mapped left_name nodes k name at in
      let named : is_named term.node.name (left_name node) ≡ true = ap (is_named term.node.name) is ∙ holds in
      let word = left k node there (left_is term.node.name node named) in
      record { node = rw number word; path = small }

  embed_range : (embed : Mention) → unknown embed (embed_number Known embed) ≡ [] → IsEmbedInRange schema rule (embed_in Known embed)
  embed_range embed none =
      let (k, number) = known embed (embed_number Known embed) none in
      let (name, at, holds) = found_first (bytes_eq embed.name) (map (λ (e : Embed). e.name) schema.embeds) k number in
      let low : k < length schema.embeds = omega (arith, slice_get_within (map (λ (e : Embed). e.name) schema.embeds) k name at, length-map schema.embeds (λ (e : Embed). e.name)) in
      rw number low

  param_range : (param : Mention) → unknown param (param_number Known param) ≡ [] → unwrap_or (param_number Known param) 0 < length rule.params
  param_range param none =
      let (k, number) = known param (param_number Known param) none in
      let (name, at, holds) = found_first (bytes_eq param.name) (map (λ (p : Param). p.name) params) k number in
      let low : k < length params = omega (arith, slice_get_within (map (λ (p : Param). p.name) params) k name at, length-map params (λ (p : Param). p.name)) in
      rw number (subst (λ (ps : List Param). k < length ps) (sym same) low)

  mask_range : (orbit : List LabelForm) → IsSmallOrbit schema.dim orbit → IsMaskInRange schema rule (mask_of orbit)
  mask_range orbit small = low_labels schema.dim no_labels orbit (low_none schema.dim) small

  collect_range : (collector : Collector) (orbit : List LabelForm) (term : TermForm) (embed : Mention) → IsSmallOrbit schema.dim orbit → IsTermInRange schema rule (term_in Known term) → IsEmbedInRange schema rule (embed_in Known embed)
      → InRange (collect collector (mask_of orbit) (term_in Known term) (embed_in Known embed))
  collect_range collectors.Sum orbit term embed small at field = (mask_range orbit small, at, field)
  collect_range collectors.Least orbit term embed small at field = (mask_range orbit small, at, field)
  collect_range collectors.Greatest orbit term embed small at field = (mask_range orbit small, at, field)

  call_range : (function : Option Function) (trees : List Tree) → AllByRecursion InRange trees → InRange (call_of function trees)
  call_range None trees all = tt
  call_range (Some functions.Vec2) (a ∷ b ∷ []) all = (all.0, all.1.0)
  call_range (Some functions.Vec3) (a ∷ b ∷ c ∷ []) all = (all.0, all.1.0, all.1.1.0)
  call_range (Some functions.Rgb) (a ∷ b ∷ c ∷ []) all = (all.0, all.1.0, all.1.1.0)
  call_range (Some (functions.Part op)) (a ∷ []) all = all.0
  call_range _ _ all = tt

  mutual
    pub in_range : (form : Form) → faults_in Known form ≡ [] → IsSmall schema.dim form → InRange (tree_in Known form)
    in_range (NumberForm n) none small = tt
    in_range (TruthForm b) none small = tt
    in_range (ParamForm param) none small = param_range param none
    in_range (FieldForm term embed) none small =
        let (at, field) = none_left (term_faults Known term) (unknown embed (embed_number Known embed)) none in
        (term_range term at small, embed_range embed field)
    in_range (SameForm one two) none small =
        let (first, second) = none_left (term_faults Known one) (term_faults Known two) none in
        (term_range one first small.0, term_range two second small.1)
    in_range (CountForm orbit term) none small =
        let (labels, at) = none_left (orbit_faults orbit) (term_faults Known term) none in
        (mask_range orbit small.0, term_range term at small.1)
    in_range (CollectForm collector orbit term embed) none small =
        let (labels, rest) = none_left (orbit_faults orbit) (field_faults Known term embed) none in
        let (at, field) = none_left (term_faults Known term) (unknown embed (embed_number Known embed)) rest in
        collect_range collector orbit term embed small.0 (term_range term at small.1) (embed_range embed field)
    in_range (CallForm function arguments) none small =
        let (inside, own) = none_left (argument_faults Known arguments) (unknown function (function_of function.name (count_of arguments))) none in
        call_range (function_named function.name) (trees_in Known arguments) (all_range arguments inside small)
    in_range (ParenForm part) none small = in_range part none small
    in_range (MinusForm part) none small = in_range part none small
    in_range (NotForm part) none small = in_range part none small
    in_range (BinaryForm op one two) none small =
        let (first, second) = none_left (faults_in Known one) (faults_in Known two) none in
        (in_range one first small.0, in_range two second small.1)
    in_range (IfForm c a b) none small =
        let (front, third) = none_left (faults_in Known c ++ faults_in Known a) (faults_in Known b) none in
        let (first, second) = none_left (faults_in Known c) (faults_in Known a) front in
        (in_range c first small.0, in_range a second small.1, in_range b third small.2)

    all_range : (arguments : Arguments) → argument_faults Known arguments ≡ [] → AreSmall schema.dim arguments → AllByRecursion InRange (trees_in Known arguments)
    all_range (First form) none small = (in_range form none small, tt)
    all_range (Further arguments form) none small =
        let (front, last) = none_left (argument_faults Known arguments) (faults_in Known form) none in
        all_behind InRange (trees_in Known arguments) (tree_in Known form) (all_range arguments front small.0) (in_range form last small.1)
