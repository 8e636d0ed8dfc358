-- The rules that a text stands for are in range and within the limits, and each of their expressions has its kind.
use Rattle.std.proofs.Common.{◌≡◌, ℕ, zero, suc, ◌+◌, ◌<◌, ◌≤◌, Bool, true, false, ◌&&◌, List, [], ◌∷◌, ◌++◌, length, get_or, All, Option, Some, None, is_some, inl, inr, ◌⊎◌, refl, sym, ap, subst, ◌∙◌, arith}
use Rattle.std.specs.Prelude.{slice_get}
use Rattle.std.specs.List.{AllByRecursion, Contains, position_or_len}
use Rattle.std.specs.Option.{option_map, option_and_then, unwrap_or}
use Rattle.std.specs.Str.{bytes_eq}
use Rattle.std.proofs.lemmas.List.{length-append, append_assoc}
use Rattle.std.proofs.lemmas.List.Elements.{All-from_recursion}
use Rattle.std.proofs.lemmas.Option.{slice_get-get_or, slice_get-map, slice_get_within}
use Rattle.gm_model.specs.declared.expr.DartTerm.{DartTerm}
use Rattle.gm_model.specs.declared.word.Letter.{Letter}
use Rattle.gm_model.specs.declared.rule.Side.{Side}
use Rattle.gm_model.specs.declared.rule.Side.TheVariants.{Left, Right}
use Rattle.gm_model.specs.declared.schema.Schema.{Schema}
use Rattle.gm_model.specs.declared.schema.Embed.{Embed}
use Rattle.gm_model.specs.declared.value.Kind.{Kind}
use Rattle.gm_model.specs.declared.value.Kind.TheVariants as kinds
use Rattle.gm_model.specs.inner.Collectors.{collector_count, most_collectors, HasFewCollectors}
use Rattle.gm_model.specs.Kinds.{IsTermInRange, IsTreeInRange, HasKind, IsTyped, embed_kind, param_kinds}
use Rattle.gm_model.specs.Rules.{Rule, RuleNode, Assignment, Assigns, has_word, word_on, letters, links_on}
use Rattle.gm_model.specs.Structure.{HasLabelsUpTo, IsLinkInRange, IsInRange, IsWithinLimits}
use Rattle.gm_model.specs.Trees.{Tree, Number, Truth, Param as Parameter, Field, Same, Count, Sum, Least, Greatest, Unary, Binary, If, MakeVec2, MakeVec3, MakeRgb}
use Rattle.gm_parse.specs.Meaning.{IsUnsigned}
use Rattle.gm_expr.specs.ExprText.{embed_name}
use Rattle.gm_expr.specs.inner.Writable as trees
use Rattle.gm_expr.proofs.CanonicalLength.{few_collectors}
use Rattle.gm_expr.proofs.Found.{param_low, embed_low, node_there}
use Rattle.gm_forms.specs.BookText.{BookText}
use Rattle.gm_book.specs.inner.Unsigned.{HasUnsignedExprs}
use Rattle.gm_book.proofs.CanonicalForm.{IsGoodWordIfAny, IsGoodNode, IsGoodLink, IsWritable, numbers_where, number_if, hook_on, set_names, IsGoodValue, IsGoodSet, HasGoodSets, HasGoodExprs}
use Rattle.gm_book.proofs.CanonicalText.{element_at, each}
use Rattle.gm_book.proofs.DifferentNames.{number_there}
use Rattle.gm_book.proofs.ReadAgain.{exprs_from_text}
use Rattle.gm_book.proofs.ReadLimits.{low_letters}
use Rattle.gm_book.proofs.ReadRules.{writable_from_text}

-- ---- numbers that rise

-- each is at least the first, and less than those behind it
abbrev Rises : ℕ → List ℕ → Type 0
Rises x [] = Unit {0}
Rises x (y ∷ ys) = (x ≤ y) × Rises (y + 1) ys

rises_more : (x more : ℕ) (ys : List ℕ) → x ≤ more → Rises more ys → Rises x ys
rises_more x more [] le rises = tt
rises_more x more (y ∷ ys) le rises = (omega (arith, le, rises.0), rises.1)

rises_from : (x : ℕ) (ys : List ℕ) → Rises x ys → (k : ℕ) → k < length ys → x ≤ get_or ys k 0
rises_from x [] rises k inside = absurd (omega (arith, inside))
rises_from x (y ∷ ys) rises zero inside = rises.0
rises_from x (y ∷ ys) rises (suc k) inside = omega (arith, rises.0, rises_from (y + 1) ys rises.1 k (omega (arith, inside)))

rises_apart : (x : ℕ) (ys : List ℕ) → Rises x ys → (p q : ℕ) → p < q → q < length ys → get_or ys p 0 < get_or ys q 0
rises_apart x [] rises p q before inside = absurd (omega (arith, inside))
rises_apart x (y ∷ ys) rises p zero before inside = absurd (omega (arith, before))
rises_apart x (y ∷ ys) rises zero (suc q) before inside = omega (arith, rises_from (y + 1) ys rises.1 q (omega (arith, inside)))
rises_apart x (y ∷ ys) rises (suc p) (suc q) before inside = rises_apart (y + 1) ys rises.1 p q (omega (arith, before)) (omega (arith, inside))

numbers_rise : (test : ℕ → Bool) (x : ℕ) (nodes : List RuleNode) → Rises x (numbers_where test x nodes)
numbers_rise test x [] = tt
numbers_rise test x (node ∷ nodes) = go (is_some node.left && test x) (numbers_rise test (x + 1) nodes)
  where
    go : (passes : Bool) → Rises (x + 1) (numbers_where test (x + 1) nodes) → Rises x (number_if passes x (numbers_where test (x + 1) nodes))
    go true later = (omega arith, later)
    go false later = rises_more x (x + 1) (numbers_where test (x + 1) nodes) (omega arith) later

abbrev nobody : RuleNode
nobody = record { name = []; left = None; right = None; sets = [] }

-- ---- the parts of a rule

module _ (n : ℕ) (rule : Rule) (ok : IsWritable n rule) where
  has_of : (side : Side) (x : ℕ) (node : RuleNode) → slice_get rule.nodes x ≡ Some node → has_word rule side x ≡ is_some (word_on side node)
  has_of side x node here = rw here refl

  labels_low : (side : Side) (x : ℕ) → HasLabelsUpTo n (letters rule side x)
  labels_low side x = go (slice_get rule.nodes x) refl
    where
      of_word : (word : Option (List Letter)) → IsGoodWordIfAny n word → HasLabelsUpTo n (unwrap_or word [])
      of_word None good = tt
      of_word (Some word) good = low_letters n word good.1

      of_side : (side : Side) (node : RuleNode) → IsGoodNode n node → HasLabelsUpTo n (unwrap_or (word_on side node) [])
      of_side Left node good = of_word node.left good.left
      of_side Right node good = of_word node.right good.right

      go : (found : Option RuleNode) → slice_get rule.nodes x ≡ found → HasLabelsUpTo n (letters rule side x)
      go None is = rw is tt
      go (Some node) is = rw is (of_side side node (element_at (IsGoodNode n) rule.nodes ok.nodes x node is))

  links_low : (side : Side) → AllByRecursion (IsLinkInRange n rule side) (links_on rule side)
  links_low side = each (IsGoodLink n rule side) (IsLinkInRange n rule side) (λ link good. record { label = good.label; from = good.from; to = good.to }) (links_on rule side) (ok.links side)

-- ---- left nodes first

abbrev has_left : List RuleNode → ℕ → Bool
has_left nodes x = is_some (option_and_then (word_on Left) (slice_get nodes x))

abbrev IsLeft : RuleNode → Type 0
IsLeft node = is_some node.left ≡ true

none_left : (nodes : List RuleNode) (y : ℕ) → AllByRecursion (λ (node : RuleNode). is_some node.left ≡ false) nodes → has_left nodes y ≡ false
none_left [] y none = refl
none_left (node ∷ nodes) zero none = none.0
none_left (node ∷ nodes) (suc y) none = none_left nodes y none.1

first_left : (front behind : List RuleNode) → AllByRecursion IsLeft front → AllByRecursion (λ (node : RuleNode). is_some node.left ≡ false) behind → (x y : ℕ) → x < y → has_left (front ++ behind) y ≡ true → has_left (front ++ behind) x ≡ true
first_left [] behind left none x y before has = absurd (let no : has_left behind y ≡ false = none_left behind y none in let e : true ≡ false = sym has ∙ no in cc)
first_left (node ∷ front) behind left none x zero before has = absurd (omega (arith, before))
first_left (node ∷ front) behind left none zero (suc y) before has = left.0
first_left (node ∷ front) behind left none (suc x) (suc y) before has = first_left front behind left.1 none x y (omega (arith, before)) has

left_there : (front nodes : List RuleNode) (node : RuleNode) → IsLeft node → has_left (front ++ node ∷ nodes) (length front) ≡ true
left_there [] nodes node left = left
left_there (other ∷ front) nodes node left = left_there front nodes node left

numbers_left : (test : ℕ → Bool) (front nodes : List RuleNode) → AllByRecursion (λ h. has_left (front ++ nodes) h ≡ true) (numbers_where test (length front) nodes)
numbers_left test front [] = tt
numbers_left test front (node ∷ nodes) =
    let longer : length (front ++ node ∷ []) ≡ length front + 1 = length-append front (node ∷ []) in
    let later : AllByRecursion (λ h. has_left (front ++ node ∷ nodes) h ≡ true) (numbers_where test (length front + 1) nodes) =
    subst (λ all. AllByRecursion (λ h. has_left all h ≡ true) (numbers_where test (length front + 1) nodes)) (append_assoc front (node ∷ []) nodes)
    (subst (λ x. AllByRecursion (λ h. has_left ((front ++ node ∷ []) ++ nodes) h ≡ true) (numbers_where test x nodes)) longer (numbers_left test (front ++ node ∷ []) nodes)) in
    go (is_some node.left) (test (length front)) refl later
  where
    go : (left passes : Bool) → is_some node.left ≡ left → AllByRecursion (λ h. has_left (front ++ node ∷ nodes) h ≡ true) (numbers_where test (length front + 1) nodes)
        → AllByRecursion (λ h. has_left (front ++ node ∷ nodes) h ≡ true) (number_if (left && passes) (length front) (numbers_where test (length front + 1) nodes))
    go true true is later = (left_there front nodes node is, later)
    go true false is later = later
    go false passes is later = later

all_append : {X : Type 0} (P : X → Type 0) (xs ys : List X) → AllByRecursion P xs → AllByRecursion P ys → AllByRecursion P (xs ++ ys)
all_append P [] ys first last = last
all_append P (x ∷ xs) ys first last = (first.0, all_append P xs ys first.1 last)

-- ---- a rule

module _ (schema : Schema) (rule : Rule) (ok : IsWritable schema.dim rule) where
  abbrev HasWord : RuleNode → Type 0
  HasWord node = IsLeft node ⊎ (is_some node.right ≡ true)

  each_has : AllByRecursion HasWord rule.nodes
  each_has = subst (AllByRecursion HasWord) (sym ok.left_first) (all_append HasWord ok.left_nodes ok.added_nodes
      (each IsLeft HasWord (λ node is. inl is) ok.left_nodes ok.left) (each (λ (node : RuleNode). (is_some node.left ≡ false) × (is_some node.right ≡ true)) HasWord (λ node two. inr two.1) ok.added_nodes ok.added))

  has_some : (x : ℕ) → x < length rule.nodes → (has_word rule Left x ≡ true) ⊎ (has_word rule Right x ≡ true)
  has_some x inside = go (slice_get rule.nodes x) refl
    where
      go : (found : Option RuleNode) → slice_get rule.nodes x ≡ found → (has_word rule Left x ≡ true) ⊎ (has_word rule Right x ≡ true)
      go None is = absurd (let found : None ≡ Some (get_or rule.nodes x nobody) = sym is ∙ slice_get-get_or rule.nodes x nobody inside in cc)
      go (Some node) is = elim (element_at HasWord rule.nodes each_has x node is) [
        | inl left ↦ inl (has_of schema.dim rule ok Left x node is ∙ left)
        | inr right ↦ inr (has_of schema.dim rule ok Right x node is ∙ right)
      ]

  left_in_front : (x y : ℕ) → x < y → has_word rule Left y ≡ true → has_word rule Left x ≡ true
  left_in_front x y before = subst (λ nodes. has_left nodes y ≡ true → has_left nodes x ≡ true) (sym ok.left_first)
      (first_left ok.left_nodes ok.added_nodes ok.left (each _ _ (λ (node : RuleNode) two. two.0) ok.added_nodes ok.added) x y before)

  -- ---- its expressions

  term_in_range : (term : DartTerm) → trees.IsGoodTerm schema.embeds rule.params rule.nodes schema.dim term → IsTermInRange schema rule term
  term_in_range term good =
      let (node, there, left) = node_there schema.embeds rule.params rule.nodes schema.dim term good in
      record { node = has_of schema.dim rule ok Left term.node node there ∙ left; path = good.1 }

  embed_in_range : (e : ℕ) → trees.IsGoodEmbed schema.embeds rule.params rule.nodes e → e < length schema.embeds
  embed_in_range e = embed_low schema.embeds rule.params rule.nodes e

  tree_in_range : (tree : Tree) → trees.IsWritable schema.embeds rule.params rule.nodes schema.dim tree → IsTreeInRange schema rule tree
  tree_in_range (Number z) can = tt
  tree_in_range (Truth b) can = tt
  tree_in_range (Parameter k) can = param_low schema.embeds rule.params rule.nodes k can
  tree_in_range (Field d e) can = (term_in_range d can.0, embed_in_range e can.1)
  tree_in_range (Same d d') can = (term_in_range d can.0, term_in_range d' can.1)
  tree_in_range (Count o d) can = (can.0, term_in_range d can.1)
  tree_in_range (Sum o d e) can = (can.0, term_in_range d can.1, embed_in_range e can.2)
  tree_in_range (Least o d e) can = (can.0, term_in_range d can.1, embed_in_range e can.2)
  tree_in_range (Greatest o d e) can = (can.0, term_in_range d can.1, embed_in_range e can.2)
  tree_in_range (Unary op a) can = tree_in_range a can
  tree_in_range (Binary op a b) can = (tree_in_range a can.0, tree_in_range b can.1)
  tree_in_range (If c a b) can = (tree_in_range c can.0, tree_in_range a can.1, tree_in_range b can.2)
  tree_in_range (MakeVec2 a b) can = (tree_in_range a can.0, tree_in_range b can.1)
  tree_in_range (MakeVec3 a b c) can = (tree_in_range a can.0, tree_in_range b can.1, tree_in_range c can.2)
  tree_in_range (MakeRgb a b c) can = (tree_in_range a can.0, tree_in_range b can.1, tree_in_range c can.2)

  tree_unsigned : (tree : Tree) → trees.IsWritable schema.embeds rule.params rule.nodes schema.dim tree → IsUnsigned tree
  tree_unsigned (Number z) can = (can.0, can.1)
  tree_unsigned (Truth b) can = tt
  tree_unsigned (Parameter k) can = tt
  tree_unsigned (Field d e) can = tt
  tree_unsigned (Same d d') can = tt
  tree_unsigned (Count o d) can = tt
  tree_unsigned (Sum o d e) can = tt
  tree_unsigned (Least o d e) can = tt
  tree_unsigned (Greatest o d e) can = tt
  tree_unsigned (Unary op a) can = tree_unsigned a can
  tree_unsigned (Binary op a b) can = (tree_unsigned a can.0, tree_unsigned b can.1)
  tree_unsigned (If c a b) can = (tree_unsigned c can.0, tree_unsigned a can.1, tree_unsigned b can.2)
  tree_unsigned (MakeVec2 a b) can = (tree_unsigned a can.0, tree_unsigned b can.1)
  tree_unsigned (MakeVec3 a b c) can = (tree_unsigned a can.0, tree_unsigned b can.1, tree_unsigned c can.2)
  tree_unsigned (MakeRgb a b c) can = (tree_unsigned a can.0, tree_unsigned b can.1, tree_unsigned c can.2)

  module _ (exprs : HasGoodExprs schema rule) where
    sets_of_node : (x : ℕ) (node : RuleNode) → slice_get rule.nodes x ≡ Some node → HasGoodSets schema rule node
    sets_of_node x node here = element_at (HasGoodSets schema rule) rule.nodes exprs.sets x node here

    good_set : (x : ℕ) (node : RuleNode) (k : ℕ) (set : Assignment) → slice_get rule.nodes x ≡ Some node → slice_get node.sets k ≡ Some set → IsGoodSet schema rule set
    good_set x node k set here there = element_at (IsGoodSet schema rule) node.sets (sets_of_node x node here).each k set there

    placed : (node : RuleNode) (set : Assignment) → Contains node.sets set → (k : ℕ) × (slice_get node.sets k ≡ Some set)
    placed node set there = (there.0, slice_get-get_or node.sets there.0 set there.1 ∙ ap Some there.2)

    -- a node with an assignment is a right one
    on_right : (x : ℕ) (node : RuleNode) (k : ℕ) (set : Assignment) → slice_get rule.nodes x ≡ Some node → slice_get node.sets k ≡ Some set → has_word rule Right x ≡ true
    on_right x node k set here there = has_of schema.dim rule ok Right x node here ∙ go node.right refl
      where
        go : (word : Option (List Letter)) → node.right ≡ word → is_some word ≡ true
        go None is = absurd (let inside : k < length node.sets = slice_get_within node.sets k set there in omega (arith, inside, ap length ((sets_of_node x node here).on_right is)))
        go (Some word) is = refl

    -- where an embedding is assigned tells which assignment it is
    number_of_set : (x : ℕ) (node : RuleNode) (k : ℕ) (set : Assignment) → slice_get rule.nodes x ≡ Some node → slice_get node.sets k ≡ Some set
        → position_or_len (bytes_eq (embed_name schema.embeds set.embed)) (set_names schema node.sets) ≡ k
    number_of_set x node k set here there =
        let name_of : Assignment → List ℕ = λ other. embed_name schema.embeds other.embed in
        let named : slice_get (set_names schema node.sets) k ≡ Some (name_of set) = slice_get-map name_of node.sets k ∙ ap (option_map name_of) there in
        number_there (set_names schema node.sets) k (name_of set) (sets_of_node x node here).differ named

    pub writable_in_range : IsInRange schema rule
    writable_in_range = record {
      words = labels_low schema.dim rule ok;
      some_word = has_some;
      left_first = left_in_front;
      links = links_low schema.dim rule ok;
      hooks = subst (AllByRecursion (λ h. has_word rule Left h ≡ true)) ok.hooks (numbers_left (hook_on rule Left) [] rule.nodes);
      hooks_differ = λ p q before inside same.
          let apart = rises_apart 0 rule.hooks (subst (Rises 0) ok.hooks (numbers_rise (hook_on rule Left) 0 rule.nodes)) p q before inside in
          omega (arith, apart, same);
      sets = λ x node set here has. let (k, there) = placed node set has in (on_right x node k set here there, (good_set x node k set here there).embed);
      sets_differ = λ x node k l set other here first second same.
          sym (number_of_set x node k set here first) ∙ ap (λ e. position_or_len (bytes_eq (embed_name schema.embeds e)) (set_names schema node.sets)) same ∙ number_of_set x node l other here second;
    }

    value_typed : (tree : Tree) (kind : Kind) → IsGoodValue schema rule tree (Some kind) → HasKind schema rule tree kind
    value_typed tree kind good = record { in_range = tree_in_range tree good.can; kind_is = good.kind_is }

    value_few : (tree : Tree) (kind : Option Kind) → IsGoodValue schema rule tree kind → collector_count tree ≤ most_collectors
    value_few tree kind good = few_collectors schema.embeds rule.params rule.nodes schema.dim tree [] (good.short [])

    assigned_value : (x e : ℕ) (tree : Tree) → Assigns rule x e tree → IsGoodValue schema rule tree (embed_kind schema.embeds (param_kinds rule.params) e)
    assigned_value x e tree (node, here, has) = let (k, there) = placed node _ has in (good_set x node k _ here there).value

    pub writable_typed : IsTyped schema rule
    writable_typed = record {
      pre = λ tree is. value_typed tree kinds.Bool (exprs.pre tree is);
      sets = λ x e tree embed assigns at.
          value_typed tree embed.kind (subst (IsGoodValue schema rule tree) (ap (option_map (λ (other : Embed). other.kind)) at) (assigned_value x e tree assigns));
    }

    pub writable_unsigned : HasUnsignedExprs rule
    writable_unsigned = record {
      pre = λ tree is. tree_unsigned tree (exprs.pre tree is).can;
      sets = λ x e tree assigns. tree_unsigned tree (assigned_value x e tree assigns).can;
    }

    pub writable_few : HasFewCollectors rule
    writable_few = record {
      pre = λ tree is. value_few tree (Some kinds.Bool) (exprs.pre tree is);
      sets = λ x e tree assigns. value_few tree _ (assigned_value x e tree assigns);
    }

  pub writable_within : IsWithinLimits rule
  writable_within = record { nodes = ok.few_nodes; left_links = ok.few_links Left; right_links = ok.few_links Right; params = ok.few_params }

-- ---- a book

-- what holds of each rule that is read
abbrev IsGoodRead : Schema → Rule → Type 0
IsGoodRead schema rule = IsInRange schema rule × IsWithinLimits rule × IsTyped schema rule × HasUnsignedExprs rule

each_good : (schema : Schema) (rules : List Rule) → AllByRecursion (IsWritable schema.dim) rules → AllByRecursion (HasGoodExprs schema) rules → AllByRecursion (IsGoodRead schema) rules
each_good schema [] ok exprs = tt
each_good schema (rule ∷ rules) ok exprs =
    ((writable_in_range schema rule ok.0 exprs.0, writable_within schema rule ok.0, writable_typed schema rule ok.0 exprs.0, writable_unsigned schema rule ok.0 exprs.0), each_good schema rules ok.1 exprs.1)

pub range_from_text : (whole : List ℕ) (version : ℕ) (schema : Schema) (rules : List Rule) → BookText whole version schema rules → All (λ rule. IsInRange schema rule × IsWithinLimits rule × IsTyped schema rule × HasUnsignedExprs rule) rules
range_from_text whole version schema rules stands =
    All-from_recursion (IsGoodRead schema) rules (each_good schema rules (writable_from_text whole version schema rules stands).each (exprs_from_text whole version schema rules stands))

each_few : (schema : Schema) (rules : List Rule) → AllByRecursion (IsWritable schema.dim) rules → AllByRecursion (HasGoodExprs schema) rules → AllByRecursion HasFewCollectors rules
each_few schema [] ok exprs = tt
each_few schema (rule ∷ rules) ok exprs = (writable_few schema rule ok.0 exprs.0, each_few schema rules ok.1 exprs.1)

pub few_from_text : (whole : List ℕ) (version : ℕ) (schema : Schema) (rules : List Rule) → BookText whole version schema rules → All HasFewCollectors rules
few_from_text whole version schema rules stands =
    All-from_recursion HasFewCollectors rules (each_few schema rules (writable_from_text whole version schema rules stands).each (exprs_from_text whole version schema rules stands))
