-- The symbols of the canonical text of a tree are those of its canonical form.
use Rattle.std.proofs.Common.{◌≡◌, ℕ, ◌≤◌, Bool, true, false, ◌||◌, ◌==◌, if◌then◌else◌, List, [], ◌∷◌, ◌++◌, ℤ, pos, negsuc, refl, ap, ◌∙◌, append_assoc, codes, arith}
use Rattle.std.specs.Prelude.{IsTrue, decimal}
use Rattle.std.specs.List.{AllByRecursion, flat_map}
use Rattle.std.proofs.lemmas.Bool.Decides.{nat_tests}
use Rattle.gm_model.specs.declared.expr.BinOp.{BinOp}
use Rattle.gm_model.specs.declared.expr.BinOp.TheVariants as ops
use Rattle.gm_model.specs.declared.expr.DartTerm.{DartTerm}
use Rattle.gm_model.specs.declared.expr.UnOp.{UnOp}
use Rattle.gm_model.specs.declared.expr.UnOp.TheVariants as unary
use Rattle.gm_model.specs.declared.rule.Param.{Param}
use Rattle.gm_model.specs.declared.schema.Embed.{Embed}
use Rattle.gm_model.specs.declared.token.TokenKind.TheVariants as kinds
use Rattle.gm_model.specs.declared.word.Mask.{Mask}
use Rattle.gm_model.specs.Labels.{has}
use Rattle.gm_model.specs.Reading.{Part, symbols_in}
use Rattle.gm_model.specs.Rules.{RuleNode, name_at}
use Rattle.gm_model.specs.Symbols.{Symbol, Word, Numeral, Sign, Mark}
use Rattle.gm_model.specs.Trees.{Tree, Number, Truth, Param as Parameter, Field, Same, Count, Sum, Least, Greatest, Unary, Binary, If, MakeVec2, MakeVec3, MakeRgb}
use Rattle.gm_model.specs.Tokens.{is_digit, is_name_byte, is_sign, is_two_byte_sign, begins_two_byte_sign, IsLexeme}
use Rattle.gm_text.proofs.Printed.{Stops, symbols_from, symbols_from-blank, symbols_from-word, symbols_from-decimal, symbols_from-sign, symbols_from-two, IsLexeme-decimal}
use Rattle.gm_text.proofs.SchemaAgain.{tail_text, tail_stops}
use Rattle.gm_parse.specs.declared.key.Collector.{Collector}
use Rattle.gm_parse.specs.declared.key.Collector.TheVariants as collectors
use Rattle.gm_parse.specs.Forms.{CallForm, IfForm, First, Further}
use Rattle.gm_parse.specs.Levels.{least_of_part, least_on_left, least_on_right}
use Rattle.gm_parse.specs.Spelling.{Role, greatest, collector_word, operator, spell, spell_orbit, spell_term, spell_field}
use Rattle.gm_parse.proofs.SpelledParts.{spell_labels, spell_path}
use Rattle.gm_text.specs.SchemaText.{labels_in, labels_text}
use Rattle.gm_expr.specs.ExprText.{orbit_text, path_text, term_text, field_text, param_name, embed_name, wrapped, sign_of, head_of, tail_of, same_text, collector_text, triple_text, tree_text}
use Rattle.gm_expr.specs.inner.Writable.{IsGoodEmbed, IsGoodTerm, IsGoodMask, IsWritable, AreGoodNames}
use Rattle.gm_expr.proofs.Found.{param_low, embed_low, node_low}
use Rattle.gm_expr.proofs.Canonical.{behind, place_in, at, function_name, unary_form, within_unary, labels_at, orbit_at, term_at, embed_at, behind_term, behind_orbit, behind_tree, collect_at, enclosed, within, is_wrapped, form_at}
use Rattle.gm_expr.proofs.CanonicalMeaning.{good_at}
use Rattle.gm_expr.proofs.MaskLabels.{all_labels}

-- ---- what stands behind an expression

-- nothing, or a byte that lengthens neither a name nor a number
abbrev pub IsBehind : List ℕ → Type 0
IsBehind more = Stops is_name_byte more

pub behind_none : IsBehind []
behind_none = tt

pub behind_blank : (b : ℕ) (rest : List ℕ) → IsTrue ((b == 32) || (b == 10)) → IsBehind (b ∷ rest)
behind_blank b rest blank = grind (arith, nat_tests)

no_digit : (b : ℕ) → is_name_byte b ≡ false → is_digit b ≡ false
no_digit b h = grind (arith, nat_tests)

behind_number : (more : List ℕ) → IsBehind more → Stops is_digit more
behind_number [] behind = tt
behind_number (b ∷ more) behind = no_digit b behind

-- ---- words and signs

word_symbols : (w more : List ℕ) (s : List Symbol) → IsLexeme kinds.Name w → IsBehind more → symbols_from more ≡ s → symbols_from (w ++ more) ≡ Word w ∷ s
word_symbols w more s name behind rest = symbols_from-word w more name behind ∙ ap (λ (t : List Symbol). Word w ∷ t) rest

blank_symbols : (more : List ℕ) (s : List Symbol) → symbols_from more ≡ s → symbols_from (32 ∷ more) ≡ s
blank_symbols more s rest = symbols_from-blank 32 more refl ∙ rest

-- a sign that what stands behind it doesn't lengthen
sign_symbols : (b : ℕ) (more : List ℕ) (s : List Symbol) → IsTrue (is_sign b) → begins_two_byte_sign b more ≡ false → symbols_from more ≡ s → symbols_from (b ∷ more) ≡ Sign (b ∷ []) ∷ s
sign_symbols b more s sign single rest = symbols_from-sign b more sign single ∙ ap (λ (t : List Symbol). Sign (b ∷ []) ∷ t) rest

alone : (b : ℕ) (more : List ℕ) → ((b == 61) || (b == 33) || (b == 60) || (b == 62)) ≡ false → begins_two_byte_sign b more ≡ false
alone b [] h = refl
alone b (c ∷ more) h = rw h refl

-- a sign that nothing lengthens
plain_symbols : (b : ℕ) (more : List ℕ) (s : List Symbol) → IsTrue (is_sign b) → ((b == 61) || (b == 33) || (b == 60) || (b == 62)) ≡ false → symbols_from more ≡ s → symbols_from (b ∷ more) ≡ Sign (b ∷ []) ∷ s
plain_symbols b more s sign plain rest = sign_symbols b more s sign (alone b more plain) rest

comma_symbols : (more : List ℕ) (s : List Symbol) → symbols_from more ≡ s → symbols_from (44 ∷ 32 ∷ more) ≡ Sign (codes ",") ∷ s
comma_symbols more s rest = plain_symbols 44 (32 ∷ more) s refl refl (blank_symbols more s rest)

digit_alone : (b : ℕ) (bytes : List ℕ) → is_digit b ≡ true → begins_two_byte_sign 60 (b ∷ bytes) ≡ false
digit_alone b bytes h = grind (arith, nat_tests)

digits_alone : (digits more : List ℕ) → IsLexeme kinds.Number digits → begins_two_byte_sign 60 (digits ++ more) ≡ false
digits_alone [] more h = absurd h
digits_alone (b ∷ digits) more h = digit_alone b (digits ++ more) h.0

-- ---- operators

one_sign : (b : ℕ) (more : List ℕ) (s : List Symbol) → IsTrue (is_sign b) → symbols_from more ≡ s → symbols_from (32 ∷ b ∷ 32 ∷ more) ≡ Sign (b ∷ []) ∷ s
one_sign b more s sign rest = blank_symbols (b ∷ 32 ∷ more) _ (sign_symbols b (32 ∷ more) s sign (apart b) (blank_symbols more s rest))
  where
    apart : (b : ℕ) → begins_two_byte_sign b (32 ∷ more) ≡ false
    apart b = grind (arith, nat_tests)

two_signs : (b c : ℕ) (more : List ℕ) (s : List Symbol) → IsTrue (is_two_byte_sign b c) → symbols_from more ≡ s → symbols_from (32 ∷ b ∷ c ∷ 32 ∷ more) ≡ Sign (b ∷ c ∷ []) ∷ s
two_signs b c more s two rest = blank_symbols (b ∷ c ∷ 32 ∷ more) _ (symbols_from-two b c (32 ∷ more) two ∙ ap (λ (t : List Symbol). Sign (b ∷ c ∷ []) ∷ t) (blank_symbols more s rest))

one_word : (w more : List ℕ) (s : List Symbol) → IsLexeme kinds.Name w → symbols_from more ≡ s → symbols_from (32 ∷ (w ++ 32 ∷ more)) ≡ Word w ∷ s
one_word w more s lexeme rest = blank_symbols (w ++ 32 ∷ more) _ (word_symbols w (32 ∷ more) s lexeme refl (blank_symbols more s rest))

-- with a blank on each side
operator_symbols : (op : BinOp) (more : List ℕ) (s : List Symbol) → symbols_from more ≡ s → symbols_from (sign_of op ++ more) ≡ (operator op).symbol ∷ s
operator_symbols ops.Or more s rest = one_word (codes "or") more s (refl, refl) rest
operator_symbols ops.And more s rest = one_word (codes "and") more s (refl, refl) rest
operator_symbols ops.Eq more s rest = two_signs 61 61 more s refl rest
operator_symbols ops.Ne more s rest = two_signs 33 61 more s refl rest
operator_symbols ops.Lt more s rest = one_sign 60 more s refl rest
operator_symbols ops.Le more s rest = two_signs 60 61 more s refl rest
operator_symbols ops.Gt more s rest = one_sign 62 more s refl rest
operator_symbols ops.Ge more s rest = two_signs 62 61 more s refl rest
operator_symbols ops.Add more s rest = one_sign 43 more s refl rest
operator_symbols ops.Sub more s rest = one_sign 45 more s refl rest
operator_symbols ops.Mul more s rest = one_sign 42 more s refl rest
operator_symbols ops.Div more s rest = one_sign 47 more s refl rest
operator_symbols ops.Rem more s rest = one_sign 37 more s refl rest

operator_behind : (op : BinOp) (more : List ℕ) → IsBehind (sign_of op ++ more)
operator_behind ops.Or more = refl
operator_behind ops.And more = refl
operator_behind ops.Eq more = refl
operator_behind ops.Ne more = refl
operator_behind ops.Lt more = refl
operator_behind ops.Le more = refl
operator_behind ops.Gt more = refl
operator_behind ops.Ge more = refl
operator_behind ops.Add more = refl
operator_behind ops.Sub more = refl
operator_behind ops.Mul more = refl
operator_behind ops.Div more = refl
operator_behind ops.Rem more = refl

three_parts : (a b c more : List ℕ) → (a ++ b ++ c) ++ more ≡ a ++ (b ++ (c ++ more))
three_parts a b c more = simp append_assoc

five_parts : (a b c d e more : List ℕ) → (a ++ b ++ c ++ d ++ e) ++ more ≡ a ++ (b ++ (c ++ (d ++ (e ++ more))))
five_parts a b c d e more = simp append_assoc

-- ---- orbits

-- labels are far below what a number can be
module _ (n : ℕ) (low : n ≤ 7) where
  label_symbols : (i : ℕ) (more : List ℕ) (s : List Symbol) → i ≤ n → Stops is_digit more → symbols_from more ≡ s → symbols_from (decimal i ++ more) ≡ Numeral i ∷ s
  label_symbols i more s small stops rest = symbols_from-decimal i more (omega (arith, low, small)) stops ∙ ap (λ (t : List Symbol). Numeral i ∷ t) rest

  more_symbols : (labels : List ℕ) (marks : List Mark) (more : List ℕ) (parts : List (Part Role)) → AllByRecursion (λ i. i ≤ n) labels
      → symbols_from (62 ∷ more) ≡ symbols_in parts → symbols_from (tail_text labels more) ≡ symbols_in (spell_labels n (labels_at marks labels) parts)
  more_symbols [] marks more parts good rest = rest
  more_symbols (i ∷ labels) marks more parts good rest =
      ap symbols_from (append_assoc (32 ∷ decimal i) (flat_map (λ other. 32 ∷ decimal other) labels) (62 ∷ more))
      ∙ symbols_from-blank 32 (decimal i ++ tail_text labels more) refl
      ∙ label_symbols i (tail_text labels more) _ good.0 (tail_stops labels more) (more_symbols labels (behind marks) more parts good.1 rest)

  labels_symbols : (labels : List ℕ) (marks : List Mark) (more : List ℕ) (parts : List (Part Role)) → AllByRecursion (λ i. i ≤ n) labels
      → symbols_from (62 ∷ more) ≡ symbols_in parts → symbols_from (labels_text labels ++ 62 ∷ more) ≡ symbols_in (spell_labels n (labels_at marks labels) parts)
  labels_symbols [] marks more parts good rest = rest
  labels_symbols (i ∷ labels) marks more parts good rest =
      ap symbols_from (append_assoc (decimal i) (flat_map (λ other. 32 ∷ decimal other) labels) (62 ∷ more))
      ∙ label_symbols i (tail_text labels more) _ good.0 (tail_stops labels more) (more_symbols labels (behind marks) more parts good.1 rest)

  labels_alone : (labels more : List ℕ) → AllByRecursion (λ i. i ≤ n) labels → begins_two_byte_sign 60 (labels_text labels ++ 62 ∷ more) ≡ false
  labels_alone [] more good = refl
  labels_alone (i ∷ labels) more good =
      ap (begins_two_byte_sign 60) (append_assoc (decimal i) (flat_map (λ other. 32 ∷ decimal other) labels) (62 ∷ more)) ∙ digits_alone (decimal i) (tail_text labels more) (IsLexeme-decimal i (omega (arith, low, good.0)))

  -- before the parenthesis behind it
  orbit_symbols : (mask : Mask) (marks : List Mark) (more : List ℕ) (parts : List (Part Role)) → ((i : ℕ) → IsTrue (has mask i) → i ≤ n) → symbols_from (40 ∷ more) ≡ symbols_in parts → symbols_from (orbit_text mask ++ 40 ∷ more) ≡ symbols_in (spell_orbit n (orbit_at marks mask) parts)
  orbit_symbols mask marks more parts good rest =
      let labels = labels_in mask in
      let small = all_labels (λ i. i ≤ n) mask good in
      let regrouped : orbit_text mask ++ 40 ∷ more ≡ 60 ∷ (labels_text labels ++ 62 ∷ 40 ∷ more) = simp append_assoc in
      ap symbols_from regrouped
      ∙ sign_symbols 60 (labels_text labels ++ 62 ∷ 40 ∷ more) _ refl (labels_alone labels (40 ∷ more) small)
      (labels_symbols labels (behind marks) (40 ∷ more) _ small (sign_symbols 62 (40 ∷ more) _ refl refl rest))

  -- ---- terms

  path_behind : (path more : List ℕ) → IsBehind more → IsBehind (path_text path ++ more)
  path_behind [] more behind = behind
  path_behind (i ∷ path) more behind = refl

  path_symbols : (path more : List ℕ) (parts : List (Part Role)) → AllByRecursion (λ i. i ≤ n) path → IsBehind more → symbols_from more ≡ symbols_in parts → symbols_from (path_text path ++ more) ≡ symbols_in (spell_path n path parts)
  path_symbols [] more parts good behind rest = rest
  path_symbols (i ∷ path) more parts good behind rest =
      let behind_it : List ℕ = path_text path ++ more in
      let regrouped : path_text (i ∷ path) ++ more ≡ 64 ∷ (decimal i ++ behind_it) = simp append_assoc in
      ap symbols_from regrouped
      ∙ plain_symbols 64 (decimal i ++ behind_it) _ refl refl
      (label_symbols i behind_it _ good.0 (behind_number behind_it (path_behind path more behind)) (path_symbols path more parts good.1 behind rest))

  module _ (embeds : List Embed) (params : List Param) (nodes : List RuleNode) (names : AreGoodNames embeds params nodes) where
    term_symbols : (term : DartTerm) (marks : List Mark) (more : List ℕ) (parts : List (Part Role)) → IsGoodTerm embeds params nodes n term → IsBehind more → symbols_from more ≡ symbols_in parts
        → symbols_from (term_text nodes term ++ more) ≡ symbols_in (spell_term n (term_at embeds params nodes marks term) parts)
    term_symbols term marks more parts is behind rest =
        ap symbols_from (append_assoc (name_at nodes term.node) (path_text term.path) more)
        ∙ word_symbols (name_at nodes term.node) (path_text term.path ++ more) _ (good_at (λ (node : RuleNode). node.name) nodes term.node names.nodes_are (node_low embeds params nodes n term is)).0.1 (path_behind term.path more behind)
        (path_symbols term.path more parts is.1 behind rest)

    field_symbols : (term : DartTerm) (e : ℕ) (marks others : List Mark) (more : List ℕ) (parts : List (Part Role)) → IsGoodTerm embeds params nodes n term → IsGoodEmbed embeds params nodes e → IsBehind more → symbols_from more ≡ symbols_in parts
        → symbols_from (field_text embeds nodes term e ++ more) ≡ symbols_in (spell_field n (term_at embeds params nodes marks term) (embed_at embeds params nodes others e) parts)
    field_symbols term e marks others more parts good inside behind rest =
        let regrouped : field_text embeds nodes term e ++ more ≡ term_text nodes term ++ 46 ∷ (embed_name embeds e ++ more) = simp append_assoc in
        ap symbols_from regrouped
        ∙ term_symbols term marks (46 ∷ (embed_name embeds e ++ more)) _ good refl
        (plain_symbols 46 (embed_name embeds e ++ more) _ refl refl
        (word_symbols (embed_name embeds e) more _ (good_at (λ (embed : Embed). embed.name) embeds e names.embeds_are (embed_low embeds params nodes e inside)).0.1 behind rest))

    -- ---- trees

    -- a tree's text with anything behind that doesn't lengthen it
    abbrev IsSpelled : Tree → Type 0
    IsSpelled tree = (marks : List Mark) (more : List ℕ) (parts : List (Part Role)) → IsBehind more → symbols_from more ≡ symbols_in parts
        → symbols_from (tree_text embeds params nodes tree ++ more) ≡ symbols_in (spell n (form_at embeds params nodes marks tree) parts)

    wrapped_symbols : (b : Bool) (tree : Tree) → IsSpelled tree → (marks : List Mark) (more : List ℕ) (parts : List (Part Role)) → IsBehind more → symbols_from more ≡ symbols_in parts
        → symbols_from ((if b then codes "(" ++ tree_text embeds params nodes tree ++ codes ")" else tree_text embeds params nodes tree) ++ more)
        ≡ symbols_in (spell n (enclosed b (form_at embeds params nodes (within b marks) tree)) parts)
    wrapped_symbols false tree spelled marks more parts behind_it rest = spelled marks more parts behind_it rest
    wrapped_symbols true tree spelled marks more parts behind_it rest =
        let regrouped : (codes "(" ++ tree_text embeds params nodes tree ++ codes ")") ++ more ≡ 40 ∷ (tree_text embeds params nodes tree ++ 41 ∷ more) = simp append_assoc in
        ap symbols_from regrouped
        ∙ plain_symbols 40 (tree_text embeds params nodes tree ++ 41 ∷ more) _ refl refl (spelled (behind marks) (41 ∷ more) _ refl (plain_symbols 41 more _ refl refl rest))

    -- what a function with one argument is
    call_symbols : (w : List ℕ) → IsLexeme kinds.Name w → (place : ℕ) (b : Bool) (tree : Tree) → IsSpelled tree → (marks : List Mark) (more : List ℕ) (parts : List (Part Role)) → symbols_from more ≡ symbols_in parts
        → symbols_from (w ++ 40 ∷ ((if b then codes "(" ++ tree_text embeds params nodes tree ++ codes ")" else tree_text embeds params nodes tree) ++ 41 ∷ more))
        ≡ symbols_in (spell n (CallForm (record { name = w; place = place }) (First (enclosed b (form_at embeds params nodes (within b marks) tree)))) parts)
    call_symbols w lexeme place b tree spelled marks more parts rest =
        word_symbols w _ _ lexeme refl (plain_symbols 40 _ _ refl refl (wrapped_symbols b tree spelled marks (41 ∷ more) _ refl (plain_symbols 41 more _ refl refl rest)))

    unary_symbols : (op : UnOp) (tree : Tree) → IsSpelled tree → IsSpelled (Unary op tree)
    unary_symbols op tree spelled marks more parts behind_it rest =
        ap symbols_from (three_parts (head_of op) (wrapped (least_of_part op) tree (tree_text embeds params nodes tree)) (tail_of op) more) ∙ go op (is_wrapped (least_of_part op) tree)
      where
        go : (op : UnOp) (b : Bool)
            → symbols_from (head_of op ++ ((if b then codes "(" ++ tree_text embeds params nodes tree ++ codes ")" else tree_text embeds params nodes tree) ++ (tail_of op ++ more)))
            ≡ symbols_in (spell n (unary_form op (at marks (function_name op)) (enclosed b (form_at embeds params nodes (within b (within_unary op marks)) tree))) parts)
        go unary.Neg b = plain_symbols 45 _ _ refl refl (wrapped_symbols b tree spelled (behind marks) more parts behind_it rest)
        go unary.Not b = word_symbols (codes "not") _ _ (refl, refl) refl (blank_symbols _ _ (wrapped_symbols b tree spelled (behind marks) more parts behind_it rest))
        go unary.X b = call_symbols (codes "x") (refl, refl) (place_in marks) b tree spelled (behind (behind marks)) more parts rest
        go unary.Y b = call_symbols (codes "y") (refl, refl) (place_in marks) b tree spelled (behind (behind marks)) more parts rest
        go unary.Z b = call_symbols (codes "z") (refl, refl) (place_in marks) b tree spelled (behind (behind marks)) more parts rest
        go unary.Red b = call_symbols (codes "red") (refl, refl) (place_in marks) b tree spelled (behind (behind marks)) more parts rest
        go unary.Green b = call_symbols (codes "green") (refl, refl) (place_in marks) b tree spelled (behind (behind marks)) more parts rest
        go unary.Blue b = call_symbols (codes "blue") (refl, refl) (place_in marks) b tree spelled (behind (behind marks)) more parts rest

    binary_symbols : (op : BinOp) (a b : Tree) → IsSpelled a → IsSpelled b → IsSpelled (Binary op a b)
    binary_symbols op a b first second marks more parts behind_it rest =
        let left : Bool = is_wrapped (least_on_left op) a in
        let right : Bool = is_wrapped (least_on_right op) b in
        let text : List ℕ = wrapped (least_on_right op) b (tree_text embeds params nodes b) ++ more in
        ap symbols_from (three_parts (wrapped (least_on_left op) a (tree_text embeds params nodes a)) (sign_of op) (wrapped (least_on_right op) b (tree_text embeds params nodes b)) more)
        ∙ wrapped_symbols left a first marks (sign_of op ++ text) _ (operator_behind op text)
        (operator_symbols op text _ (wrapped_symbols right b second (behind (within left (behind_tree a (within left marks)))) more parts behind_it rest))

    choice_symbols : (c a b : Tree) → IsSpelled c → IsSpelled a → IsSpelled b → (first second third : List Mark) (more : List ℕ) (parts : List (Part Role)) → IsBehind more → symbols_from more ≡ symbols_in parts
        → symbols_from (tree_text embeds params nodes (If c a b) ++ more) ≡ symbols_in (spell n (IfForm (form_at embeds params nodes first c) (form_at embeds params nodes second a) (form_at embeds params nodes third b)) parts)
    choice_symbols c a b one two three first second third more parts behind_it rest =
        let last : List ℕ = tree_text embeds params nodes b ++ more in
        let middle : List ℕ = tree_text embeds params nodes a ++ (codes " else " ++ last) in
        let all : List ℕ = tree_text embeds params nodes c ++ (codes " then " ++ middle) in
        let regrouped : tree_text embeds params nodes (If c a b) ++ more ≡ codes "if " ++ all = simp append_assoc in
        ap symbols_from regrouped
        ∙ word_symbols (codes "if") (32 ∷ all) _ (refl, refl) refl (blank_symbols all _
        (one first (codes " then " ++ middle) _ refl (one_word (codes "then") middle _ (refl, refl)
        (two second (codes " else " ++ last) _ refl (one_word (codes "else") last _ (refl, refl) (three third more parts behind_it rest))))))

    -- ---- functions

    pair_symbols : (a b : Tree) → IsSpelled a → IsSpelled b → IsSpelled (MakeVec2 a b)
    pair_symbols a b one two marks more parts behind_it rest =
        let first : List Mark = behind (behind marks) in
        let last : List ℕ = tree_text embeds params nodes b ++ 41 ∷ more in
        let inside : List ℕ = tree_text embeds params nodes a ++ 44 ∷ 32 ∷ last in
        let regrouped : tree_text embeds params nodes (MakeVec2 a b) ++ more ≡ codes "vec2(" ++ inside = simp append_assoc in
        ap symbols_from regrouped
        ∙ word_symbols (codes "vec2") (40 ∷ inside) _ (refl, refl) refl (plain_symbols 40 inside _ refl refl
        (one first (44 ∷ 32 ∷ last) _ refl (comma_symbols last _ (two (behind (behind_tree a first)) (41 ∷ more) _ refl (plain_symbols 41 more _ refl refl rest)))))

    triple_symbols : (w : List ℕ) → IsLexeme kinds.Name w → (place : ℕ) (a b c : Tree) → IsSpelled a → IsSpelled b → IsSpelled c → (first second third : List Mark) (more : List ℕ) (parts : List (Part Role)) → symbols_from more ≡ symbols_in parts
        → symbols_from (triple_text (w ++ codes "(") (tree_text embeds params nodes a) (tree_text embeds params nodes b) (tree_text embeds params nodes c) ++ more)
        ≡ symbols_in (spell n (CallForm (record { name = w; place = place }) (Further (Further (First (form_at embeds params nodes first a)) (form_at embeds params nodes second b)) (form_at embeds params nodes third c))) parts)
    triple_symbols w lexeme place a b c one two three first second third more parts rest =
        let last : List ℕ = tree_text embeds params nodes c ++ 41 ∷ more in
        let middle : List ℕ = tree_text embeds params nodes b ++ 44 ∷ 32 ∷ last in
        let inside : List ℕ = tree_text embeds params nodes a ++ 44 ∷ 32 ∷ middle in
        let regrouped : triple_text (w ++ codes "(") (tree_text embeds params nodes a) (tree_text embeds params nodes b) (tree_text embeds params nodes c) ++ more ≡ w ++ 40 ∷ inside = simp append_assoc in
        ap symbols_from regrouped
        ∙ word_symbols w (40 ∷ inside) _ lexeme refl (plain_symbols 40 inside _ refl refl
        (one first (44 ∷ 32 ∷ middle) _ refl (comma_symbols middle _
        (two second (44 ∷ 32 ∷ last) _ refl (comma_symbols last _
        (three third (41 ∷ more) _ refl (plain_symbols 41 more _ refl refl rest)))))))

    same_symbols : (d d' : DartTerm) → IsGoodTerm embeds params nodes n d → IsGoodTerm embeds params nodes n d' → IsSpelled (Same d d')
    same_symbols d d' good good' marks more parts behind_it rest =
        let first : List Mark = behind (behind marks) in
        let last : List ℕ = term_text nodes d' ++ 41 ∷ more in
        let inside : List ℕ = term_text nodes d ++ 44 ∷ 32 ∷ last in
        let regrouped : same_text nodes d d' ++ more ≡ codes "same(" ++ inside = simp append_assoc in
        ap symbols_from regrouped
        ∙ word_symbols (codes "same") (40 ∷ inside) _ (refl, refl) refl (plain_symbols 40 inside _ refl refl
        (term_symbols d first (44 ∷ 32 ∷ last) _ good refl (comma_symbols last _
        (term_symbols d' (behind (behind_term d first)) (41 ∷ more) _ good' refl (plain_symbols 41 more _ refl refl rest)))))

    count_symbols : (o : Mask) (d : DartTerm) → IsGoodMask embeds params nodes n o → IsGoodTerm embeds params nodes n d → IsSpelled (Count o d)
    count_symbols o d mask good marks more parts behind_it rest =
        let inside : List ℕ = term_text nodes d ++ 41 ∷ more in
        ap symbols_from (five_parts (codes "count") (orbit_text o) (codes "(") (term_text nodes d) (codes ")") more)
        ∙ word_symbols (codes "count") (orbit_text o ++ 40 ∷ inside) _ (refl, refl) refl
        (orbit_symbols o (behind marks) inside _ mask (plain_symbols 40 inside _ refl refl
        (term_symbols d (behind (behind_orbit o (behind marks))) (41 ∷ more) _ good refl (plain_symbols 41 more _ refl refl rest))))

    collector_symbols : (collector : Collector) (o : Mask) (d : DartTerm) (e : ℕ) → IsLexeme kinds.Name (collector_word collector) → IsGoodMask embeds params nodes n o → IsGoodTerm embeds params nodes n d → IsGoodEmbed embeds params nodes e
        → (marks : List Mark) (more : List ℕ) (parts : List (Part Role)) → symbols_from more ≡ symbols_in parts
        → symbols_from (collector_text embeds nodes (collector_word collector) o d e ++ more) ≡ symbols_in (spell n (collect_at embeds params nodes marks collector o d e) parts)
    collector_symbols collector o d e lexeme mask good in_range marks more parts rest =
        let within_it : List Mark = behind (behind_orbit o (behind marks)) in
        let inside : List ℕ = field_text embeds nodes d e ++ 41 ∷ more in
        ap symbols_from (five_parts (collector_word collector) (orbit_text o) (codes "(") (field_text embeds nodes d e) (codes ")") more)
        ∙ word_symbols (collector_word collector) (orbit_text o ++ 40 ∷ inside) _ lexeme refl
        (orbit_symbols o (behind marks) inside _ mask (plain_symbols 40 inside _ refl refl
        (field_symbols d e within_it (behind (behind_term d within_it)) (41 ∷ more) _ good in_range refl (plain_symbols 41 more _ refl refl rest))))

    -- ---- any tree

    number_symbols : (z : ℤ) → (k : ℕ) × (z ≡ pos k) × (k ≤ greatest) → IsSpelled (Number z)
    number_symbols (pos m) (k, is, small) marks more parts behind_it rest =
        let same : m ≡ k = cc is in
        symbols_from-decimal m more (omega (arith, same, small)) (behind_number more behind_it) ∙ ap (λ (t : List Symbol). Numeral m ∷ t) rest
    number_symbols (negsuc m) (k, is, small) marks more parts behind_it rest = absurd cc

    truth_symbols : (b : Bool) → IsSpelled (Truth b)
    truth_symbols true marks more parts behind_it rest = word_symbols (codes "true") more _ (refl, refl) behind_it rest
    truth_symbols false marks more parts behind_it rest = word_symbols (codes "false") more _ (refl, refl) behind_it rest

    spelled : (tree : Tree) → IsWritable embeds params nodes n tree → IsSpelled tree
    spelled (Number z) can = number_symbols z can
    spelled (Truth b) can = truth_symbols b
    spelled (Parameter k) can = λ marks more parts behind_it rest. word_symbols (param_name params k) more _ (good_at (λ (param : Param). param.name) params k names.params_are (param_low embeds params nodes k can)).0.1 behind_it rest
    spelled (Field d e) can = λ marks more parts behind_it rest. field_symbols d e marks (behind (behind_term d marks)) more parts can.0 can.1 behind_it rest
    spelled (Same d d') can = same_symbols d d' can.0 can.1
    spelled (Count o d) can = count_symbols o d can.0 can.1
    spelled (Sum o d e) can = λ marks more parts behind_it rest. collector_symbols collectors.Sum o d e (refl, refl) can.0 can.1 can.2 marks more parts rest
    spelled (Least o d e) can = λ marks more parts behind_it rest. collector_symbols collectors.Least o d e (refl, refl) can.0 can.1 can.2 marks more parts rest
    spelled (Greatest o d e) can = λ marks more parts behind_it rest. collector_symbols collectors.Greatest o d e (refl, refl) can.0 can.1 can.2 marks more parts rest
    spelled (Unary op a) can = unary_symbols op a (spelled a can)
    spelled (Binary op a b) can = binary_symbols op a b (spelled a can.0) (spelled b can.1)
    spelled (If c a b) can = λ marks more parts behind_it rest.
        let second : List Mark = behind (behind_tree c (behind marks)) in
        choice_symbols c a b (spelled c can.0) (spelled a can.1) (spelled b can.2) (behind marks) second (behind (behind_tree a second)) more parts behind_it rest
    spelled (MakeVec2 a b) can = pair_symbols a b (spelled a can.0) (spelled b can.1)
    spelled (MakeVec3 a b c) can = λ marks more parts behind_it rest.
        let first : List Mark = behind (behind marks) in
        let second : List Mark = behind (behind_tree a first) in
        triple_symbols (codes "vec3") (refl, refl) (place_in marks) a b c (spelled a can.0) (spelled b can.1) (spelled c can.2) first second (behind (behind_tree b second)) more parts rest
    spelled (MakeRgb a b c) can = λ marks more parts behind_it rest.
        let first : List Mark = behind (behind marks) in
        let second : List Mark = behind (behind_tree a first) in
        triple_symbols (codes "rgb") (refl, refl) (place_in marks) a b c (spelled a can.0) (spelled b can.1) (spelled c can.2) first second (behind (behind_tree b second)) more parts rest

pub tree_symbols : (embeds : List Embed) (params : List Param) (nodes : List RuleNode) (n : ℕ) → n ≤ 7 → AreGoodNames embeds params nodes → (tree : Tree) → IsWritable embeds params nodes n tree
    → (marks : List Mark) (more : List ℕ) (parts : List (Part Role)) → IsBehind more → symbols_from more ≡ symbols_in parts
    → symbols_from (tree_text embeds params nodes tree ++ more) ≡ symbols_in (spell n (form_at embeds params nodes marks tree) parts)
tree_symbols embeds params nodes n low names tree can = spelled n low embeds params nodes names tree can
