-- Each name and each label of the canonical form has the place of its mark, and the form takes a mark a part.
use Rattle.std.proofs.Common.{◌≡◌, ℕ, Bool, true, false, List, [], ◌∷◌, length, drop, codes, refl, sym, subst, ◌∙◌, drop_of_length-le, arith}
use Rattle.gm_model.specs.declared.expr.BinOp.{BinOp}
use Rattle.gm_model.specs.declared.expr.BinOp.TheVariants as ops
use Rattle.gm_model.specs.declared.expr.DartTerm.{DartTerm}
use Rattle.gm_model.specs.declared.expr.UnOp.{UnOp}
use Rattle.gm_model.specs.declared.expr.UnOp.TheVariants as unary
use Rattle.gm_model.specs.declared.rule.Param.{Param}
use Rattle.gm_model.specs.declared.schema.Embed.{Embed}
use Rattle.gm_model.specs.declared.word.Mask.{Mask}
use Rattle.gm_model.specs.Reading.{Part, ArePlaced}
use Rattle.gm_model.specs.Rules.{RuleNode}
use Rattle.gm_model.specs.Symbols.{Mark}
use Rattle.gm_model.specs.Trees.{Tree, Number, Truth, Param as Parameter, Field, Same, Count, Sum, Least, Greatest, Unary, Binary, If, MakeVec2, MakeVec3, MakeRgb}
use Rattle.gm_parse.specs.declared.key.Collector.{Collector}
use Rattle.gm_parse.specs.declared.key.Collector.TheVariants as collectors
use Rattle.gm_parse.specs.Forms.{CallForm, First}
use Rattle.gm_parse.specs.Levels.{least_of_part, least_on_left, least_on_right}
use Rattle.gm_parse.specs.Spelling.{Role, Fixed, operator, spell, spell_orbit, spell_term, spell_field, IsPlacedAt}
use Rattle.gm_parse.proofs.SpelledParts.{spell_labels, spell_path}
use Rattle.gm_text.specs.SchemaText.{labels_in}
use Rattle.gm_expr.proofs.Canonical.{behind, place_in, at, function_name, unary_form, within_unary, behind_unary, behind_labels, behind_orbit, behind_path, behind_term, behind_field, behind_tree, labels_at, orbit_at, term_at, embed_at, collect_at, is_wrapped, enclosed, within, form_at}

pub operator_fixed : (op : BinOp) → (operator op).role ≡ Fixed
operator_fixed ops.Or = refl
operator_fixed ops.And = refl
operator_fixed ops.Eq = refl
operator_fixed ops.Ne = refl
operator_fixed ops.Lt = refl
operator_fixed ops.Le = refl
operator_fixed ops.Gt = refl
operator_fixed ops.Ge = refl
operator_fixed ops.Add = refl
operator_fixed ops.Sub = refl
operator_fixed ops.Mul = refl
operator_fixed ops.Div = refl
operator_fixed ops.Rem = refl

-- ---- what holds of marks and parts where it holds behind the first of each

module _ (Holds : List Mark → List (Part Role) → Type 0)
    (first : (marks : List Mark) (part : Part Role) (parts : List (Part Role)) → IsPlacedAt (place_in marks) part.role → Holds (behind marks) parts → Holds marks (part ∷ parts)) (n : ℕ) where
  labels_hold : (labels : List ℕ) (marks : List Mark) (parts : List (Part Role)) → Holds (behind_labels labels marks) parts → Holds marks (spell_labels n (labels_at marks labels) parts)
  labels_hold [] marks parts later = later
  labels_hold (label ∷ labels) marks parts later = first marks _ _ refl (labels_hold labels (behind marks) parts later)

  orbit_holds : (mask : Mask) (marks : List Mark) (parts : List (Part Role)) → Holds (behind_orbit mask marks) parts → Holds marks (spell_orbit n (orbit_at marks mask) parts)
  orbit_holds mask marks parts later = first marks _ _ tt (labels_hold (labels_in mask) (behind marks) _ (first (behind_labels (labels_in mask) (behind marks)) _ _ tt later))

  path_holds : (path : List ℕ) (marks : List Mark) (parts : List (Part Role)) → Holds (behind_path path marks) parts → Holds marks (spell_path n path parts)
  path_holds [] marks parts later = later
  path_holds (label ∷ path) marks parts later = first marks _ _ tt (first (behind marks) _ _ tt (path_holds path (behind (behind marks)) parts later))

  module _ (embeds : List Embed) (params : List Param) (nodes : List RuleNode) where
    term_holds : (term : DartTerm) (marks : List Mark) (parts : List (Part Role)) → Holds (behind_term term marks) parts → Holds marks (spell_term n (term_at embeds params nodes marks term) parts)
    term_holds term marks parts later = first marks _ _ refl (path_holds term.path (behind marks) parts later)

    field_holds : (term : DartTerm) (e : ℕ) (marks : List Mark) (parts : List (Part Role)) → Holds (behind_field term marks) parts
        → Holds marks (spell_field n (term_at embeds params nodes marks term) (embed_at embeds params nodes (behind (behind_term term marks)) e) parts)
    field_holds term e marks parts later = term_holds term marks _ (first (behind_term term marks) _ _ tt (first (behind (behind_term term marks)) _ _ refl later))

    collect_holds : (collector : Collector) (mask : Mask) (term : DartTerm) (e : ℕ) (marks : List Mark) (parts : List (Part Role)) → Holds (behind (behind_field term (behind (behind_orbit mask (behind marks))))) parts
        → Holds marks (spell n (collect_at embeds params nodes marks collector mask term e) parts)
    collect_holds collector mask term e marks parts later =
        let inside : List Mark = behind (behind_orbit mask (behind marks)) in
        first marks _ _ tt (orbit_holds mask (behind marks) _ (first (behind_orbit mask (behind marks)) _ _ tt (field_holds term e inside _ (first (behind_field term inside) _ _ tt later))))

    -- ---- trees

    abbrev TreeHolds : Tree → Type 0
    TreeHolds tree = (marks : List Mark) (parts : List (Part Role)) → Holds (behind_tree tree marks) parts → Holds marks (spell n (form_at embeds params nodes marks tree) parts)

    enclosed_holds : (b : Bool) (tree : Tree) → TreeHolds tree → (marks : List Mark) (parts : List (Part Role)) → Holds (within b (behind_tree tree (within b marks))) parts
        → Holds marks (spell n (enclosed b (form_at embeds params nodes (within b marks) tree)) parts)
    enclosed_holds false tree holds marks parts later = holds marks parts later
    enclosed_holds true tree holds marks parts later = first marks _ _ tt (holds (behind marks) _ (first (behind_tree tree (behind marks)) _ _ tt later))

    operator_holds : (op : BinOp) (marks : List Mark) (parts : List (Part Role)) → Holds (behind marks) parts → Holds marks (operator op ∷ parts)
    operator_holds op marks parts later = first marks (operator op) parts (subst (IsPlacedAt (place_in marks)) (sym (operator_fixed op)) tt) later

    unary_holds : (op : UnOp) (tree : Tree) → TreeHolds tree → TreeHolds (Unary op tree)
    unary_holds op tree holds marks parts later = go op (is_wrapped (least_of_part op) tree) later
      where
        call : (w : List ℕ) (b : Bool) → Holds (behind (within b (behind_tree tree (within b (behind (behind marks)))))) parts
            → Holds marks (spell n (CallForm (at marks w) (First (enclosed b (form_at embeds params nodes (within b (behind (behind marks))) tree)))) parts)
        call w b later = first marks _ _ refl (first (behind marks) _ _ tt (enclosed_holds b tree holds (behind (behind marks)) _ (first (within b (behind_tree tree (within b (behind (behind marks))))) _ _ tt later)))

        go : (op : UnOp) (b : Bool) → Holds (behind_unary op (within b (behind_tree tree (within b (within_unary op marks))))) parts
            → Holds marks (spell n (unary_form op (at marks (function_name op)) (enclosed b (form_at embeds params nodes (within b (within_unary op marks)) tree))) parts)
        go unary.Neg b later = first marks _ _ tt (enclosed_holds b tree holds (behind marks) parts later)
        go unary.Not b later = first marks _ _ tt (enclosed_holds b tree holds (behind marks) parts later)
        go unary.X b later = call (codes "x") b later
        go unary.Y b later = call (codes "y") b later
        go unary.Z b later = call (codes "z") b later
        go unary.Red b later = call (codes "red") b later
        go unary.Green b later = call (codes "green") b later
        go unary.Blue b later = call (codes "blue") b later

    binary_holds : (op : BinOp) (a b : Tree) → TreeHolds a → TreeHolds b → TreeHolds (Binary op a b)
    binary_holds op a b one two marks parts later =
        let left : Bool = is_wrapped (least_on_left op) a in
        let right : Bool = is_wrapped (least_on_right op) b in
        let middle : List Mark = within left (behind_tree a (within left marks)) in
        enclosed_holds left a one marks _ (operator_holds op middle _ (enclosed_holds right b two (behind middle) parts later))

    pub tree_holds : (tree : Tree) → TreeHolds tree
    tree_holds (Number z) marks parts later = first marks _ _ tt later
    tree_holds (Truth b) marks parts later = first marks _ _ tt later
    tree_holds (Parameter k) marks parts later = first marks _ _ refl later
    tree_holds (Field d e) marks parts later = field_holds d e marks parts later
    tree_holds (Same d d') marks parts later =
        let one : List Mark = behind (behind marks) in
        let two : List Mark = behind (behind_term d one) in
        first marks _ _ tt (first (behind marks) _ _ tt (term_holds d one _ (first (behind_term d one) _ _ tt (term_holds d' two _ (first (behind_term d' two) _ _ tt later)))))
    tree_holds (Count o d) marks parts later =
        let inside : List Mark = behind (behind_orbit o (behind marks)) in
        first marks _ _ tt (orbit_holds o (behind marks) _ (first (behind_orbit o (behind marks)) _ _ tt (term_holds d inside _ (first (behind_term d inside) _ _ tt later))))
    tree_holds (Sum o d e) marks parts later = collect_holds collectors.Sum o d e marks parts later
    tree_holds (Least o d e) marks parts later = collect_holds collectors.Least o d e marks parts later
    tree_holds (Greatest o d e) marks parts later = collect_holds collectors.Greatest o d e marks parts later
    tree_holds (Unary op a) marks parts later = unary_holds op a (tree_holds a) marks parts later
    tree_holds (Binary op a b) marks parts later = binary_holds op a b (tree_holds a) (tree_holds b) marks parts later
    tree_holds (If c a b) marks parts later =
        let second : List Mark = behind (behind_tree c (behind marks)) in
        let third : List Mark = behind (behind_tree a second) in
        first marks _ _ tt (tree_holds c (behind marks) _ (first (behind_tree c (behind marks)) _ _ tt (tree_holds a second _ (first (behind_tree a second) _ _ tt (tree_holds b third parts later)))))
    tree_holds (MakeVec2 a b) marks parts later =
        let one : List Mark = behind (behind marks) in
        let two : List Mark = behind (behind_tree a one) in
        first marks _ _ refl (first (behind marks) _ _ tt (tree_holds a one _ (first (behind_tree a one) _ _ tt (tree_holds b two _ (first (behind_tree b two) _ _ tt later)))))
    tree_holds (MakeVec3 a b c) marks parts later =
        let one : List Mark = behind (behind marks) in
        let two : List Mark = behind (behind_tree a one) in
        let three : List Mark = behind (behind_tree b two) in
        first marks _ _ refl (first (behind marks) _ _ tt (tree_holds a one _ (first (behind_tree a one) _ _ tt (tree_holds b two _ (first (behind_tree b two) _ _ tt (tree_holds c three _ (first (behind_tree c three) _ _ tt later)))))))
    tree_holds (MakeRgb a b c) marks parts later =
        let one : List Mark = behind (behind marks) in
        let two : List Mark = behind (behind_tree a one) in
        let three : List Mark = behind (behind_tree b two) in
        first marks _ _ refl (first (behind marks) _ _ tt (tree_holds a one _ (first (behind_tree a one) _ _ tt (tree_holds b two _ (first (behind_tree b two) _ _ tt (tree_holds c three _ (first (behind_tree c three) _ _ tt later)))))))

-- ---- places

placed_first : (marks : List Mark) (part : Part Role) (parts : List (Part Role)) → IsPlacedAt (place_in marks) part.role → ArePlaced IsPlacedAt (behind marks) parts → ArePlaced IsPlacedAt marks (part ∷ parts)
placed_first [] part parts here later = tt
placed_first (mark ∷ marks) part parts here later = (here, later)

-- ---- marks gone past

module _ (end : List Mark) where
  -- as many marks as parts stand before the end
  abbrev LeadsTo : List Mark → List (Part Role) → Type 0
  LeadsTo marks parts = drop (length parts) marks ≡ end

  leads_first : (marks : List Mark) (part : Part Role) (parts : List (Part Role)) → IsPlacedAt (place_in marks) part.role → LeadsTo (behind marks) parts → LeadsTo marks (part ∷ parts)
  leads_first [] part parts here later = sym (drop_of_length-le [] (omega arith)) ∙ later
  leads_first (mark ∷ marks) part parts here later = later

module _ (embeds : List Embed) (params : List Param) (nodes : List RuleNode) where
  pub tree_placed : (n : ℕ) (tree : Tree) (marks : List Mark) (parts : List (Part Role)) → ArePlaced IsPlacedAt (behind_tree tree marks) parts → ArePlaced IsPlacedAt marks (spell n (form_at embeds params nodes marks tree) parts)
  tree_placed n tree marks parts later = tree_holds (ArePlaced IsPlacedAt) placed_first n embeds params nodes tree marks parts later

  pub tree_behind : (n : ℕ) (tree : Tree) (marks : List Mark) → behind_tree tree marks ≡ drop (length (spell n (form_at embeds params nodes marks tree) [])) marks
  tree_behind n tree marks = sym (tree_holds (LeadsTo (behind_tree tree marks)) (leads_first (behind_tree tree marks)) n embeds params nodes tree marks [] refl)
