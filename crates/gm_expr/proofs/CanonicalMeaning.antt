-- The canonical form of a tree is a good form that means the tree, without a fault.
use Rattle.std.proofs.Common.{◌≡◌, ℕ, zero, suc, ◌<◌, ◌≤◌, pos, ℤ, Bool, true, false, List, [], ◌∷◌, ◌++◌, length, map, Option, Some, refl, sym, ap, ap₂, ◌∙◌, arith}
use Rattle.std.specs.Prelude.{nat_lt, slice_get}
use Rattle.std.specs.List.{AllByRecursion, position}
use Rattle.std.specs.Option.{option_map, unwrap_or}
use Rattle.std.specs.Str.{bytes_eq}
use Rattle.std.proofs.lemmas.Bool.Decides.{nat_tests}
use Rattle.gm_model.specs.declared.expr.BinOp.{BinOp}
use Rattle.gm_model.specs.declared.expr.BinOp.TheVariants as ops
use Rattle.gm_model.specs.declared.expr.DartTerm.{DartTerm}
use Rattle.gm_model.specs.declared.expr.UnOp.{UnOp}
use Rattle.gm_model.specs.declared.expr.UnOp.TheVariants as unary
use Rattle.gm_model.specs.declared.rule.Param.{Param}
use Rattle.gm_model.specs.declared.schema.Embed.{Embed}
use Rattle.gm_model.specs.declared.word.Mask.{Mask}
use Rattle.gm_model.specs.Names.{Mention, reserved, is_among}
use Rattle.gm_model.specs.Rules.{RuleNode, name_at}
use Rattle.gm_model.specs.Symbols.{Mark}
use Rattle.gm_model.specs.Trees.{Tree, Number, Truth, Param as Parameter, Field, Same, Count, Sum, Least, Greatest, Unary, Binary, If, MakeVec2, MakeVec3, MakeRgb}
use Rattle.gm_parse.specs.declared.key.Collector.{Collector}
use Rattle.gm_parse.specs.declared.key.Collector.TheVariants as collectors
use Rattle.gm_parse.specs.Forms.{Form, level_of, IsGood}
use Rattle.gm_parse.specs.Levels.{unary_level, least_of_part, least_on_left, least_on_right}
use Rattle.gm_parse.specs.Meaning.{Names, NameFault, is_named, node_number, embed_number, param_number, unknown, term_faults, field_faults, faults_in, mask_of, term_in, embed_in, tree_in}
use Rattle.gm_text.specs.SchemaText.{labels_in}
use Rattle.gm_expr.specs.ExprText.{level, param_name, embed_name}
use Rattle.gm_expr.specs.inner.Writable.{IsGoodName, AreGoodNames, IsGoodParam, IsGoodEmbed, IsGoodTerm, IsGoodMask, IsWritable, left_name_of}
use Rattle.gm_expr.proofs.Found.{param_low, embed_low, node_low}
use Rattle.gm_expr.proofs.Canonical.{behind, at, labels_at, behind_orbit, behind_term, written, function_name, unary_form, within_unary, is_wrapped, enclosed, within, behind_tree, term_at, embed_at, collect_at, form_at}
use Rattle.gm_expr.proofs.MaskLabels.{mask_again, labels_faultless}

-- ---- levels

unary_binds : (op : UnOp) (name : Mention) (part : Form) → level_of (unary_form op name part) ≡ unary_level op
unary_binds unary.Neg name part = refl
unary_binds unary.Not name part = refl
unary_binds unary.X name part = refl
unary_binds unary.Y name part = refl
unary_binds unary.Z name part = refl
unary_binds unary.Red name part = refl
unary_binds unary.Green name part = refl
unary_binds unary.Blue name part = refl

part_most : (op : UnOp) → least_of_part op ≤ 8
part_most unary.Neg = omega arith
part_most unary.Not = omega arith
part_most unary.X = omega arith
part_most unary.Y = omega arith
part_most unary.Z = omega arith
part_most unary.Red = omega arith
part_most unary.Green = omega arith
part_most unary.Blue = omega arith

sides_most : (op : BinOp) → (least_on_left op ≤ 8) × (least_on_right op ≤ 8)
sides_most ops.Or = omega arith
sides_most ops.And = omega arith
sides_most ops.Eq = omega arith
sides_most ops.Ne = omega arith
sides_most ops.Lt = omega arith
sides_most ops.Le = omega arith
sides_most ops.Gt = omega arith
sides_most ops.Ge = omega arith
sides_most ops.Add = omega arith
sides_most ops.Sub = omega arith
sides_most ops.Mul = omega arith
sides_most ops.Div = omega arith
sides_most ops.Rem = omega arith

enclosed_binds : (wrapped : Bool) (least k : ℕ) (form : Form) → nat_lt k least ≡ wrapped → least ≤ 8 → level_of form ≡ k → least ≤ level_of (enclosed wrapped form)
enclosed_binds true least k form is most binds = most
enclosed_binds false least k form is most binds = let enough : least ≤ k = grind (arith, nat_tests, is) in omega (arith, enough, binds)

enclosed_good : (wrapped : Bool) (form : Form) → IsGood form → IsGood (enclosed wrapped form)
enclosed_good true form good = good
enclosed_good false form good = good

unary_good : (op : UnOp) (marks : List Mark) (part : Form) → least_of_part op ≤ level_of part → IsGood part → IsGood (unary_form op (at marks (function_name op)) part)
unary_good unary.Neg marks part binds good = (binds, good)
unary_good unary.Not marks part binds good = (binds, good)
unary_good unary.X marks part binds good = (refl, good)
unary_good unary.Y marks part binds good = (refl, good)
unary_good unary.Z marks part binds good = (refl, good)
unary_good unary.Red marks part binds good = (refl, good)
unary_good unary.Green marks part binds good = (refl, good)
unary_good unary.Blue marks part binds good = (refl, good)

-- ---- names

pub good_at : {X : Type 0} (name_of : X → List ℕ) (xs : List X) (k : ℕ) → AllByRecursion (λ x. IsGoodName (name_of x)) xs → k < length xs → IsGoodName (unwrap_or (option_map name_of (slice_get xs k)) [])
good_at name_of [] k all low = absurd (omega (arith, low))
good_at name_of (x ∷ xs) zero all low = all.0
good_at name_of (x ∷ xs) (suc k) all low = good_at name_of xs k all.1 (omega (arith, low))

-- ---- faults

known : {A : Type 0} (mention : Mention) (found : Option A) (x : A) → found ≡ Some x → unknown mention found ≡ []
known mention found x is = ap (unknown mention) is

both_none : {xs ys : List NameFault} → xs ≡ [] → ys ≡ [] → xs ++ ys ≡ []
both_none first second = ap₂ (λ (xs ys : List NameFault). xs ++ ys) first second

-- ---- terms and trees

module _ (embeds : List Embed) (params : List Param) (nodes : List RuleNode) where
  abbrev canon : List Mark → Tree → Form
  canon = form_at embeds params nodes

  pub tree_binds : (tree : Tree) (marks : List Mark) → level_of (form_at embeds params nodes marks tree) ≡ level tree
  tree_binds (Number z) marks = refl
  tree_binds (Truth b) marks = refl
  tree_binds (Parameter k) marks = refl
  tree_binds (Field d e) marks = refl
  tree_binds (Same d d') marks = refl
  tree_binds (Count o d) marks = refl
  tree_binds (Sum o d e) marks = refl
  tree_binds (Least o d e) marks = refl
  tree_binds (Greatest o d e) marks = refl
  tree_binds (Unary op a) marks = unary_binds op _ _
  tree_binds (Binary op a b) marks = refl
  tree_binds (If c a b) marks = refl
  tree_binds (MakeVec2 a b) marks = refl
  tree_binds (MakeVec3 a b c) marks = refl
  tree_binds (MakeRgb a b c) marks = refl

  -- ---- it is good

  module _ (good : AreGoodNames embeds params nodes) where
    term_free : (n : ℕ) (term : DartTerm) → IsGoodTerm embeds params nodes n term → is_among reserved (name_at nodes term.node) ≡ false
    term_free n term is = (good_at (λ (node : RuleNode). node.name) nodes term.node good.nodes_are (node_low embeds params nodes n term is)).1

    embed_free : (e : ℕ) → IsGoodEmbed embeds params nodes e → is_among reserved (embed_name embeds e) ≡ false
    embed_free e is = (good_at (λ (embed : Embed). embed.name) embeds e good.embeds_are (embed_low embeds params nodes e is)).1

    pub tree_good : (n : ℕ) (tree : Tree) → IsWritable embeds params nodes n tree → (marks : List Mark) → IsGood (form_at embeds params nodes marks tree)
    tree_good n (Number z) is marks = tt
    tree_good n (Truth b) is marks = tt
    tree_good n (Parameter k) is marks = (good_at (λ (param : Param). param.name) params k good.params_are (param_low embeds params nodes k is)).1
    tree_good n (Field d e) is marks = (term_free n d is.0, embed_free e is.1)
    tree_good n (Same d d') is marks = (term_free n d is.0, term_free n d' is.1)
    tree_good n (Count o d) is marks = term_free n d is.1
    tree_good n (Sum o d e) is marks = (term_free n d is.1, embed_free e is.2)
    tree_good n (Least o d e) is marks = (term_free n d is.1, embed_free e is.2)
    tree_good n (Greatest o d e) is marks = (term_free n d is.1, embed_free e is.2)
    tree_good n (Unary op a) is marks =
        let wrapped = is_wrapped (least_of_part op) a in
        let inside = within wrapped (within_unary op marks) in
        unary_good op marks (enclosed wrapped (canon inside a)) (enclosed_binds wrapped (least_of_part op) (level a) (canon inside a) refl (part_most op) (tree_binds a inside)) (enclosed_good wrapped (canon inside a) (tree_good n a is inside))
    tree_good n (Binary op a b) is marks =
        let left = is_wrapped (least_on_left op) a in
        let right = is_wrapped (least_on_right op) b in
        let first = within left marks in
        let second = within right (behind (within left (behind_tree a first))) in
        let most = sides_most op in (
          enclosed_binds left (least_on_left op) (level a) (canon first a) refl most.0 (tree_binds a first),
          enclosed_binds right (least_on_right op) (level b) (canon second b) refl most.1 (tree_binds b second),
          enclosed_good left (canon first a) (tree_good n a is.0 first),
          enclosed_good right (canon second b) (tree_good n b is.1 second),
        )
    tree_good n (If c a b) is marks = (tree_good n c is.0 _, tree_good n a is.1 _, tree_good n b is.2 _)
    tree_good n (MakeVec2 a b) is marks = (refl, (tree_good n a is.0 _, tree_good n b is.1 _))
    tree_good n (MakeVec3 a b c) is marks = (refl, ((tree_good n a is.0 _, tree_good n b is.1 _), tree_good n c is.2 _))
    tree_good n (MakeRgb a b c) is marks = (refl, ((tree_good n a is.0 _, tree_good n b is.1 _), tree_good n c is.2 _))

  -- ---- what it means

  module _ (names : Names) (embeds_are : names.embeds ≡ map (λ (embed : Embed). embed.name) embeds) (params_are : names.params ≡ map (λ (param : Param). param.name) params) (nodes_are : names.nodes ≡ map left_name_of nodes) (n : ℕ) (top : n ≤ 7) where
    param_is : (k : ℕ) → IsGoodParam embeds params nodes k → position (bytes_eq (param_name params k)) names.params ≡ Some k
    param_is k is = ap (position (bytes_eq (param_name params k))) params_are ∙ is

    embed_is : (e : ℕ) → IsGoodEmbed embeds params nodes e → position (bytes_eq (embed_name embeds e)) names.embeds ≡ Some e
    embed_is e is = ap (position (bytes_eq (embed_name embeds e))) embeds_are ∙ is

    node_is : (term : DartTerm) → IsGoodTerm embeds params nodes n term → position (is_named (name_at nodes term.node)) names.nodes ≡ Some term.node
    node_is term is = ap (position (is_named (name_at nodes term.node))) nodes_are ∙ is.0

    term_means : (term : DartTerm) → IsGoodTerm embeds params nodes n term → term_in names (term_at embeds params nodes [] term) ≡ term
    term_means term is = ap (λ (found : Option ℕ). let t : DartTerm = record { node = unwrap_or found 0; path = term.path } in t) (node_is term is)

    embed_means : (e : ℕ) → IsGoodEmbed embeds params nodes e → embed_in names (embed_at embeds params nodes [] e) ≡ e
    embed_means e low = ap (λ (found : Option ℕ). unwrap_or found 0) (embed_is e low)

    orbit_means : (mask : Mask) → IsGoodMask embeds params nodes n mask → (marks : List Mark) → mask_of (labels_at marks (labels_in mask)) ≡ mask
    orbit_means mask is marks = mask_again mask marks (λ i there. let low = is i there in omega (arith, low, top))

    enclosed_means : (wrapped : Bool) (form : Form) → tree_in names (enclosed wrapped form) ≡ tree_in names form
    enclosed_means true form = refl
    enclosed_means false form = refl

    unary_means : (op : UnOp) (marks : List Mark) (part : Form) → tree_in names (unary_form op (at marks (function_name op)) part) ≡ Unary op (tree_in names part)
    unary_means unary.Neg marks part = refl
    unary_means unary.Not marks part = refl
    unary_means unary.X marks part = refl
    unary_means unary.Y marks part = refl
    unary_means unary.Z marks part = refl
    unary_means unary.Red marks part = refl
    unary_means unary.Green marks part = refl
    unary_means unary.Blue marks part = refl

    pub tree_means : (tree : Tree) → IsWritable embeds params nodes n tree → (marks : List Mark) → tree_in names (form_at embeds params nodes marks tree) ≡ tree
    tree_means (Number z) (k, is, low) marks = ap (λ (y : ℤ). Number (pos (written y))) is ∙ ap Number (sym is)
    tree_means (Truth b) is marks = refl
    tree_means (Parameter k) is marks = ap (λ (found : Option ℕ). Parameter (unwrap_or found 0)) (param_is k is)
    tree_means (Field d e) is marks = ap₂ Field (term_means d is.0) (embed_means e is.1)
    tree_means (Same d d') is marks = ap₂ Same (term_means d is.0) (term_means d' is.1)
    tree_means (Count o d) is marks = ap₂ Count (orbit_means o is.0 (behind (behind marks))) (term_means d is.1)
    tree_means (Sum o d e) is marks = λ i. Sum (orbit_means o is.0 (behind (behind marks)) i) (term_means d is.1 i) (embed_means e is.2 i)
    tree_means (Least o d e) is marks = λ i. Least (orbit_means o is.0 (behind (behind marks)) i) (term_means d is.1 i) (embed_means e is.2 i)
    tree_means (Greatest o d e) is marks = λ i. Greatest (orbit_means o is.0 (behind (behind marks)) i) (term_means d is.1 i) (embed_means e is.2 i)
    tree_means (Unary op a) is marks =
        let wrapped = is_wrapped (least_of_part op) a in
        let inside = within wrapped (within_unary op marks) in
        unary_means op marks (enclosed wrapped (canon inside a)) ∙ ap (Unary op) (enclosed_means wrapped (canon inside a) ∙ tree_means a is inside)
    tree_means (Binary op a b) is marks =
        let left = is_wrapped (least_on_left op) a in
        let right = is_wrapped (least_on_right op) b in
        let first = within left marks in
        let second = within right (behind (within left (behind_tree a first))) in
        ap₂ (Binary op) (enclosed_means left (canon first a) ∙ tree_means a is.0 first) (enclosed_means right (canon second b) ∙ tree_means b is.1 second)
    tree_means (If c a b) is marks =
        let second = behind (behind_tree c (behind marks)) in
        let third = behind (behind_tree a second) in
        λ i. If (tree_means c is.0 (behind marks) i) (tree_means a is.1 second i) (tree_means b is.2 third i)
    tree_means (MakeVec2 a b) is marks = let first = behind (behind marks) in ap₂ MakeVec2 (tree_means a is.0 first) (tree_means b is.1 (behind (behind_tree a first)))
    tree_means (MakeVec3 a b c) is marks =
        let first = behind (behind marks) in
        let second = behind (behind_tree a first) in
        λ i. MakeVec3 (tree_means a is.0 first i) (tree_means b is.1 second i) (tree_means c is.2 (behind (behind_tree b second)) i)
    tree_means (MakeRgb a b c) is marks =
        let first = behind (behind marks) in
        let second = behind (behind_tree a first) in
        λ i. MakeRgb (tree_means a is.0 first i) (tree_means b is.1 second i) (tree_means c is.2 (behind (behind_tree b second)) i)

    -- ---- its faults

    term_known : (marks : List Mark) (term : DartTerm) → IsGoodTerm embeds params nodes n term → term_faults names (term_at embeds params nodes marks term) ≡ []
    term_known marks term is = known (at marks (name_at nodes term.node)) (node_number names (at marks (name_at nodes term.node))) term.node (node_is term is)

    field_known : (marks behind_it : List Mark) (term : DartTerm) (e : ℕ) → IsGoodTerm embeds params nodes n term → IsGoodEmbed embeds params nodes e → field_faults names (term_at embeds params nodes marks term) (embed_at embeds params nodes behind_it e) ≡ []
    field_known marks behind_it term e is low = both_none (term_known marks term is) (known (embed_at embeds params nodes behind_it e) (embed_number names (embed_at embeds params nodes behind_it e)) e (embed_is e low))

    collect_known : (collector : Collector) (marks : List Mark) (mask : Mask) (term : DartTerm) (e : ℕ) → IsGoodTerm embeds params nodes n term → IsGoodEmbed embeds params nodes e → faults_in names (collect_at embeds params nodes marks collector mask term e) ≡ []
    collect_known collector marks mask term e is low = both_none (labels_faultless mask (behind (behind marks))) (field_known (behind (behind_orbit mask (behind marks))) (behind (behind_term term (behind (behind_orbit mask (behind marks))))) term e is low)

    enclosed_known : (wrapped : Bool) (form : Form) → faults_in names form ≡ [] → faults_in names (enclosed wrapped form) ≡ []
    enclosed_known true form none = none
    enclosed_known false form none = none

    unary_known : (op : UnOp) (marks : List Mark) (part : Form) → faults_in names part ≡ [] → faults_in names (unary_form op (at marks (function_name op)) part) ≡ []
    unary_known unary.Neg marks part none = none
    unary_known unary.Not marks part none = none
    unary_known unary.X marks part none = both_none none refl
    unary_known unary.Y marks part none = both_none none refl
    unary_known unary.Z marks part none = both_none none refl
    unary_known unary.Red marks part none = both_none none refl
    unary_known unary.Green marks part none = both_none none refl
    unary_known unary.Blue marks part none = both_none none refl

    pub tree_faultless : (tree : Tree) → IsWritable embeds params nodes n tree → (marks : List Mark) → faults_in names (form_at embeds params nodes marks tree) ≡ []
    tree_faultless (Number z) is marks = refl
    tree_faultless (Truth b) is marks = refl
    tree_faultless (Parameter k) is marks = known (at marks (param_name params k)) (param_number names (at marks (param_name params k))) k (param_is k is)
    tree_faultless (Field d e) is marks = field_known marks (behind (behind_term d marks)) d e is.0 is.1
    tree_faultless (Same d d') is marks = let first = behind (behind marks) in both_none (term_known first d is.0) (term_known (behind (behind_term d first)) d' is.1)
    tree_faultless (Count o d) is marks = both_none (labels_faultless o (behind (behind marks))) (term_known (behind (behind_orbit o (behind marks))) d is.1)
    tree_faultless (Sum o d e) is marks = collect_known collectors.Sum marks o d e is.1 is.2
    tree_faultless (Least o d e) is marks = collect_known collectors.Least marks o d e is.1 is.2
    tree_faultless (Greatest o d e) is marks = collect_known collectors.Greatest marks o d e is.1 is.2
    tree_faultless (Unary op a) is marks =
        let wrapped = is_wrapped (least_of_part op) a in
        let inside = within wrapped (within_unary op marks) in
        unary_known op marks (enclosed wrapped (canon inside a)) (enclosed_known wrapped (canon inside a) (tree_faultless a is inside))
    tree_faultless (Binary op a b) is marks =
        let left = is_wrapped (least_on_left op) a in
        let right = is_wrapped (least_on_right op) b in
        let first = within left marks in
        let second = within right (behind (within left (behind_tree a first))) in
        both_none (enclosed_known left (canon first a) (tree_faultless a is.0 first)) (enclosed_known right (canon second b) (tree_faultless b is.1 second))
    tree_faultless (If c a b) is marks =
        let second = behind (behind_tree c (behind marks)) in
        both_none (both_none (tree_faultless c is.0 (behind marks)) (tree_faultless a is.1 second)) (tree_faultless b is.2 (behind (behind_tree a second)))
    tree_faultless (MakeVec2 a b) is marks =
        let first = behind (behind marks) in
        both_none (both_none (tree_faultless a is.0 first) (tree_faultless b is.1 (behind (behind_tree a first)))) refl
    tree_faultless (MakeVec3 a b c) is marks =
        let first = behind (behind marks) in
        let second = behind (behind_tree a first) in
        both_none (both_none (both_none (tree_faultless a is.0 first) (tree_faultless b is.1 second)) (tree_faultless c is.2 (behind (behind_tree b second)))) refl
    tree_faultless (MakeRgb a b c) is marks =
        let first = behind (behind marks) in
        let second = behind (behind_tree a first) in
        both_none (both_none (both_none (tree_faultless a is.0 first) (tree_faultless b is.1 second)) (tree_faultless c is.2 (behind (behind_tree b second)))) refl
