-- Canonical text as lines, and its symbols: those of the canonical form.
use Rattle.std.proofs.Common.{◌≡◌, ℕ, ◌+◌, ◌≤◌, Bool, true, false, not, eqb, List, [], ◌∷◌, ◌++◌, map, filter, Option, Some, None, is_some, refl, sym, ap, subst, ◌∙◌, append_assoc, codes}
use Rattle.std.specs.Prelude.{slice_get}
use Rattle.std.specs.List.{flat_map, list_any, AllByRecursion}
use Rattle.std.proofs.lemmas.Grind.{flat_map-append}
use Rattle.std.proofs.lemmas.List.{append-nil}
use Rattle.std.proofs.lemmas.List.Elements.{filter-append, All-from_recursion}
use Rattle.std.proofs.lemmas.Option.{slice_get_within, get_or_from_slice_get}
use Rattle.gm_model.specs.declared.word.Letter.{Letter}
use Rattle.gm_model.specs.declared.rule.Link.{Link}
use Rattle.gm_model.specs.declared.rule.Param.{Param}
use Rattle.gm_model.specs.declared.schema.Embed.{Embed}
use Rattle.gm_model.specs.declared.schema.Schema.{Schema}
use Rattle.gm_model.specs.declared.token.TokenKind.TheVariants as tokens
use Rattle.gm_model.specs.declared.value.Kind.{Kind}
use Rattle.gm_model.specs.declared.value.Kind.TheVariants as kinds
use Rattle.gm_model.specs.declared.rule.Side.{Side}
use Rattle.gm_model.specs.declared.rule.Side.TheVariants.{Left, Right}
use Rattle.gm_model.specs.Symbols.{Symbol, Word, Sign, Mark}
use Rattle.gm_model.specs.Tokens.{IsLexeme, begins_two_byte_sign, is_name_byte}
use Rattle.gm_model.specs.Reading.{Part, symbols_in, word, the_end}
use Rattle.gm_model.specs.Rules.{Rule, RuleNode, Assignment, has_word, word_on, links_on, name_at}
use Rattle.gm_expr.proofs.Canonical.{behind}
use Rattle.gm_expr.specs.inner.Writable.{AreGoodNames}
use Rattle.gm_forms.specs.BookText.{Role, Fixed, no_count, counted, count_across, spell_items, spell_more_params, spell_params, spell_pre, spell_rule, spell_rules}
use Rattle.gm_book.specs.Canonical.{hook_text, node_line, set_text, left_lines, right_line, right_lines, link_line, param_text, params_text, pre_line, rule_lines}
use Rattle.gm_text.proofs.Printed.{symbols_from, Stops, symbols_from-end, symbols_from-blank, symbols_from-sign, symbols_from-word, symbols_from-word_blank}
use Rattle.gm_text.specs.SchemaText.{kind_word}
use Rattle.gm_book.proofs.CanonicalForm.{Line, text_of, node_lines, line_before, sets_on, tie, hook_on, lines_of, params_at, behind_param, form_at, forms_at, left_marks, right_marks, pre_marks, behind_rule, IsGoodName, IsGoodParam, IsGoodLine, IsGoodNode, IsGoodLink, IsGoodWordIfAny, IsWritable, IsGoodSet, HasGoodSets, HasGoodExprs}
use Rattle.gm_book.proofs.CanonicalSymbols.{lines_symbols, pre_symbols}

pub element_at : {X : Type 0} (P : X → Type 0) (xs : List X) → AllByRecursion P xs → (k : ℕ) (x : X) → slice_get xs k ≡ Some x → P x
element_at P xs all k x here = subst P (get_or_from_slice_get xs k x x here) (All-from_recursion P xs all k x (slice_get_within xs k x here))

-- ---- text as lines

module _ (schema : Schema) (rule : Rule) where
  abbrev lines_text : List Line → List ℕ
  lines_text lines = flat_map (text_of schema rule) lines

  ties_text : (nodes : List RuleNode) (links : List Link) → flat_map (link_line nodes) links ≡ lines_text (map (tie nodes) links)
  ties_text nodes [] = refl
  ties_text nodes (link ∷ links) = ap (λ bytes. link_line nodes link ++ bytes) (ties_text nodes links)

  left_text : (hooks : List ℕ) (x : ℕ) (nodes : List RuleNode) (lines : List Line) → left_lines hooks x nodes ++ lines_text lines ≡ lines_text (node_lines Left (λ y. list_any (eqb y) hooks) x nodes lines)
  left_text hooks x [] lines = refl
  left_text hooks x (node ∷ nodes) lines = go (left_text hooks (x + 1) nodes lines) node.left refl
    where
      go : left_lines hooks (x + 1) nodes ++ lines_text lines ≡ lines_text (node_lines Left (λ y. list_any (eqb y) hooks) (x + 1) nodes lines) → (word : Option (List Letter)) → node.left ≡ word → left_lines hooks x (node ∷ nodes) ++ lines_text lines ≡ lines_text (node_lines Left (λ y. list_any (eqb y) hooks) x (node ∷ nodes) lines)
      go rest None is = rw is rest
      go rest (Some word) is =
          let hook : List ℕ = hook_text (list_any (eqb x) hooks) in
          rw is (append_assoc (node_line node.name word hook) (left_lines hooks (x + 1) nodes) (lines_text lines)
          ∙ ap (λ bytes. node_line node.name word hook ++ bytes) rest
          ∙ ap (λ bytes. node_line node.name word bytes ++ lines_text (node_lines Left (λ y. list_any (eqb y) hooks) (x + 1) nodes lines)) (sym (append-nil hook)))

  right_text : (x : ℕ) (nodes : List RuleNode) (lines : List Line) → flat_map (right_line schema rule) nodes ++ lines_text lines ≡ lines_text (node_lines Right (λ y. false) x nodes lines)
  right_text x [] lines = refl
  right_text x (node ∷ nodes) lines = go (right_text (x + 1) nodes lines) node.right refl
    where
      go : flat_map (right_line schema rule) nodes ++ lines_text lines ≡ lines_text (node_lines Right (λ y. false) (x + 1) nodes lines) → (word : Option (List Letter)) → node.right ≡ word → flat_map (right_line schema rule) (node ∷ nodes) ++ lines_text lines ≡ lines_text (node_lines Right (λ y. false) x (node ∷ nodes) lines)
      go rest None is = rw is rest
      go rest (Some word) is =
          let text : List ℕ = node_line node.name word (flat_map (set_text schema rule) node.sets) in
          rw is (append_assoc text (flat_map (right_line schema rule) nodes) (lines_text lines) ∙ ap (λ bytes. text ++ bytes) rest)

-- ---- with the left nodes first

all_pass : {X : Type 0} (p : X → Bool) (xs : List X) → AllByRecursion (λ x. p x ≡ true) xs → filter p xs ≡ xs
all_pass p [] all = refl
all_pass p (x ∷ xs) all = rw all.0 (ap (λ ys. x ∷ ys) (all_pass p xs all.1))

none_pass : {X : Type 0} (p : X → Bool) (xs : List X) → AllByRecursion (λ x. p x ≡ false) xs → filter p xs ≡ []
none_pass p [] all = refl
none_pass p (x ∷ xs) all = rw all.0 (none_pass p xs all.1)

pub each : {X : Type 0} (P Q : X → Type 0) → ((x : X) → P x → Q x) → (xs : List X) → AllByRecursion P xs → AllByRecursion Q xs
each P Q more [] all = tt
each P Q more (x ∷ xs) all = (more x all.0, each P Q more xs all.1)

abbrev is_left_node : RuleNode → Bool
is_left_node node = is_some node.left

rights_in_order : (schema : Schema) (rule : Rule) → IsWritable schema.dim rule → right_lines schema rule ≡ flat_map (right_line schema rule) rule.nodes
rights_in_order schema rule ok =
    let line : RuleNode → List ℕ = right_line schema rule in
    let no : RuleNode → Bool = λ node. not (is_left_node node) in
    let lefts : filter is_left_node rule.nodes ≡ ok.left_nodes =
    ap (filter is_left_node) ok.left_first ∙ filter-append is_left_node ok.left_nodes ok.added_nodes
    ∙ ap (λ xs. xs ++ filter is_left_node ok.added_nodes) (all_pass is_left_node ok.left_nodes ok.left)
    ∙ ap (λ xs. ok.left_nodes ++ xs) (none_pass is_left_node ok.added_nodes (each _ _ (λ x both. both.0) ok.added_nodes ok.added)) ∙ append-nil ok.left_nodes in
    let others : filter no rule.nodes ≡ ok.added_nodes =
    ap (filter no) ok.left_first ∙ filter-append no ok.left_nodes ok.added_nodes
    ∙ ap (λ xs. xs ++ filter no ok.added_nodes) (none_pass no ok.left_nodes (each _ _ (λ x is. ap not is) ok.left_nodes ok.left))
    ∙ all_pass no ok.added_nodes (each _ _ (λ x both. ap not both.0) ok.added_nodes ok.added) in
    ap (λ xs. flat_map line xs ++ flat_map line (filter no rule.nodes)) lefts ∙ ap (λ xs. flat_map line ok.left_nodes ++ flat_map line xs) others
    ∙ sym (flat_map-append line ok.left_nodes ok.added_nodes) ∙ ap (flat_map line) (sym ok.left_first)

left_side : (schema : Schema) (rule : Rule) → left_lines rule.hooks 0 rule.nodes ++ flat_map (link_line rule.nodes) rule.left_links ≡ flat_map (text_of schema rule) (lines_of rule Left)
left_side schema rule = ap (λ bytes. left_lines rule.hooks 0 rule.nodes ++ bytes) (ties_text schema rule rule.nodes rule.left_links) ∙ left_text schema rule rule.hooks 0 rule.nodes (map (tie rule.nodes) rule.left_links)

right_side : (schema : Schema) (rule : Rule) → IsWritable schema.dim rule → right_lines schema rule ++ flat_map (link_line rule.nodes) rule.right_links ≡ flat_map (text_of schema rule) (lines_of rule Right)
right_side schema rule ok =
    ap (λ bytes. bytes ++ flat_map (link_line rule.nodes) rule.right_links) (rights_in_order schema rule ok) ∙ ap (λ bytes. flat_map (right_line schema rule) rule.nodes ++ bytes) (ties_text schema rule rule.nodes rule.right_links)
    ∙ right_text schema rule 0 rule.nodes (map (tie rule.nodes) rule.right_links)

regroup : (a b p c d e f g h q more : List ℕ) → (a ++ b ++ p ++ c ++ d ++ e ++ f ++ g ++ h ++ q) ++ more ≡ a ++ (b ++ (p ++ (c ++ ((d ++ e) ++ (f ++ ((g ++ h) ++ (q ++ more)))))))
regroup a b p c d e f g h q more = simp append_assoc

-- ---- parameters

kind_lexeme : (kind : Kind) → IsLexeme tokens.Name (kind_word kind)
kind_lexeme kinds.Int = (refl, refl)
kind_lexeme kinds.Bool = (refl, refl)
kind_lexeme kinds.Vec2 = (refl, refl)
kind_lexeme kinds.Vec3 = (refl, refl)
kind_lexeme kinds.Rgb = (refl, refl)

param_symbols : (param : Param) (more : List ℕ) → IsGoodParam param → Stops is_name_byte more → symbols_from (param_text param ++ more) ≡ Word param.name ∷ Sign (codes ":") ∷ Word (kind_word param.kind) ∷ symbols_from more
param_symbols param more good stops =
    let regrouped : param_text param ++ more ≡ param.name ++ 58 ∷ 32 ∷ (kind_word param.kind ++ more) = simp append_assoc in
    ap symbols_from regrouped
    ∙ symbols_from-word param.name (58 ∷ 32 ∷ (kind_word param.kind ++ more)) good.0.1 refl
    ∙ ap (λ (s : List Symbol). Word param.name ∷ s)
    (symbols_from-sign 58 (32 ∷ (kind_word param.kind ++ more)) refl refl
    ∙ ap (λ (s : List Symbol). Sign (codes ":") ∷ s) (symbols_from-blank 32 (kind_word param.kind ++ more) refl ∙ symbols_from-word (kind_word param.kind) more (kind_lexeme param.kind) stops))

abbrev more_params_text : List Param → List ℕ → List ℕ
more_params_text params more = flat_map (λ (param : Param). codes ", " ++ param_text param) params ++ 41 ∷ more

open_alone : (rest : List ℕ) → begins_two_byte_sign 40 rest ≡ false
open_alone [] = refl
open_alone (b ∷ rest) = refl

close_alone : (rest : List ℕ) → begins_two_byte_sign 41 rest ≡ false
close_alone [] = refl
close_alone (b ∷ rest) = refl

more_params_stop : (params : List Param) (more : List ℕ) → Stops is_name_byte (more_params_text params more)
more_params_stop [] more = refl
more_params_stop (param ∷ params) more = refl

more_params_symbols : (k : ℕ) (params : List Param) (marks : List Mark) (more : List ℕ) (parts : List (Part Role)) → AllByRecursion IsGoodParam params → symbols_from more ≡ symbols_in parts
    → symbols_from (more_params_text params more) ≡ symbols_in (spell_more_params k (params_at marks params) parts)
more_params_symbols k [] marks more parts good rest = symbols_from-sign 41 more refl (close_alone more) ∙ ap (λ (s : List Symbol). Sign (codes ")") ∷ s) rest
more_params_symbols k (param ∷ params) marks more parts good rest =
    let behind_it = more_params_text params more in
    let regrouped : more_params_text (param ∷ params) more ≡ 44 ∷ 32 ∷ (param_text param ++ behind_it) = ap (λ (bytes : List ℕ). 44 ∷ 32 ∷ bytes) (append_assoc (param_text param) (flat_map (λ (other : Param). codes ", " ++ param_text other) params) (41 ∷ more)) in
    ap symbols_from regrouped
    ∙ symbols_from-sign 44 (32 ∷ (param_text param ++ behind_it)) refl refl
    ∙ ap (λ (s : List Symbol). Sign (codes ",") ∷ s)
    (symbols_from-blank 32 (param_text param ++ behind_it) refl
    ∙ param_symbols param behind_it good.0 (more_params_stop params more)
    ∙ ap (λ (s : List Symbol). Word param.name ∷ Sign (codes ":") ∷ Word (kind_word param.kind) ∷ s) (more_params_symbols (k + 1) params (behind_param marks) more parts good.1 rest))

-- what stands behind a rule's name goes on no name
params_stop : (params : List Param) (more : List ℕ) → Stops is_name_byte more → Stops is_name_byte (params_text params ++ more)
params_stop [] more stops = stops
params_stop (param ∷ params) more stops = refl

params_symbols : (params : List Param) (marks : List Mark) (more : List ℕ) (parts : List (Part Role)) → AllByRecursion IsGoodParam params → symbols_from more ≡ symbols_in parts
    → symbols_from (params_text params ++ more) ≡ symbols_in (spell_params (params_at marks params) parts)
params_symbols [] marks more parts good rest = rest
params_symbols (param ∷ params) marks more parts good rest =
    let behind_it = more_params_text params more in
    let regrouped : params_text (param ∷ params) ++ more ≡ 40 ∷ (param_text param ++ behind_it) = simp append_assoc in
    ap symbols_from regrouped
    ∙ symbols_from-sign 40 (param_text param ++ behind_it) refl (open_alone (param_text param ++ behind_it))
    ∙ ap (λ (s : List Symbol). Sign (codes "(") ∷ s)
    (param_symbols param behind_it good.0 (more_params_stop params more)
    ∙ ap (λ (s : List Symbol). Word param.name ∷ Sign (codes ":") ∷ Word (kind_word param.kind) ∷ s) (more_params_symbols 1 params (behind_param marks) more parts good.1 rest))

-- ---- good lines

word_on_side : (n : ℕ) (side : Side) (node : RuleNode) → IsGoodNode n node → IsGoodWordIfAny n (word_on side node)
word_on_side n Left node good = good.left
word_on_side n Right node good = good.right

-- the name of a node that has a word
named_by : (n : ℕ) (rule : Rule) (side : Side) (x : ℕ) → AllByRecursion (IsGoodNode n) rule.nodes → has_word rule side x ≡ true → IsGoodName (name_at rule.nodes x)
named_by n rule side x good has = go (slice_get rule.nodes x) refl
  where
    go : (found : Option RuleNode) → slice_get rule.nodes x ≡ found → IsGoodName (name_at rule.nodes x)
    go None is = absurd (let none : has_word rule side x ≡ false = rw is refl in cc)
    go (Some node) is = rw is (element_at (IsGoodNode n) rule.nodes good x node is).name

-- the names of the schema's embeddings, the rule's parameters and its nodes
pub good_names : (schema : Schema) (rule : Rule) → AllByRecursion (λ (embed : Embed). IsGoodName embed.name) schema.embeds → IsWritable schema.dim rule → AreGoodNames schema.embeds rule.params rule.nodes
good_names schema rule embeds ok = record {
  embeds_are = embeds;
  params_are = ok.params;
  nodes_are = each (IsGoodNode schema.dim) (λ (node : RuleNode). IsGoodName node.name) (λ node good. good.name) rule.nodes ok.nodes;
}

module _ (schema : Schema) (rule : Rule) where
  good_before : (name : List ℕ) (word : Option (List Letter)) (hook : Bool) (sets : List Assignment) (lines : List Line) → IsGoodName name → IsGoodWordIfAny schema.dim word → AllByRecursion (IsGoodSet schema rule) sets → AllByRecursion (IsGoodLine schema rule) lines
      → AllByRecursion (IsGoodLine schema rule) (line_before name word hook sets lines)
  good_before name None hook sets lines good fits exprs rest = rest
  good_before name (Some word) hook sets lines good fits exprs rest = ((good, fits, exprs), rest)

  sets_on_side : (side : Side) (node : RuleNode) → HasGoodSets schema rule node → AllByRecursion (IsGoodSet schema rule) (sets_on side node)
  sets_on_side Left node good = tt
  sets_on_side Right node good = good.each

  good_nodes : (side : Side) (hook : ℕ → Bool) (x : ℕ) (nodes : List RuleNode) (lines : List Line) → AllByRecursion (IsGoodNode schema.dim) nodes → AllByRecursion (HasGoodSets schema rule) nodes → AllByRecursion (IsGoodLine schema rule) lines
      → AllByRecursion (IsGoodLine schema rule) (node_lines side hook x nodes lines)
  good_nodes side hook x [] lines good exprs rest = rest
  good_nodes side hook x (node ∷ nodes) lines good exprs rest =
      good_before node.name (word_on side node) (hook x) (sets_on side node) (node_lines side hook (x + 1) nodes lines) good.0.name (word_on_side schema.dim side node good.0) (sets_on_side side node exprs.0)
      (good_nodes side hook (x + 1) nodes lines good.1 exprs.1 rest)

  good_ties : (side : Side) (links : List Link) → AllByRecursion (IsGoodNode schema.dim) rule.nodes → AllByRecursion (IsGoodLink schema.dim rule side) links → AllByRecursion (IsGoodLine schema rule) (map (tie rule.nodes) links)
  good_ties side [] nodes good = tt
  good_ties side (link ∷ links) nodes good =
      ((named_by schema.dim rule side link.from nodes good.0.from, good.0.label, named_by schema.dim rule side link.to nodes good.0.to), good_ties side links nodes good.1)

  pub good_lines : (side : Side) → IsWritable schema.dim rule → HasGoodExprs schema rule → AllByRecursion (IsGoodLine schema rule) (lines_of rule side)
  good_lines side ok exprs = good_nodes side (hook_on rule side) 0 rule.nodes (map (tie rule.nodes) (links_on rule side)) ok.nodes exprs.sets (good_ties side (links_on rule side) ok.nodes (ok.links side))

-- ---- symbols

module _ (schema : Schema) (low : schema.dim ≤ 7) (embeds : AllByRecursion (λ (embed : Embed). IsGoodName embed.name) schema.embeds) where
  rule_symbols : (k : ℕ) (rule : Rule) (marks : List Mark) (more : List ℕ) (parts : List (Part Role)) → IsWritable schema.dim rule → HasGoodExprs schema rule → symbols_from more ≡ symbols_in parts
      → symbols_from (rule_lines schema rule ++ more) ≡ symbols_in (spell_rule schema.dim k (form_at schema marks rule) parts)
  rule_symbols k rule marks more parts ok exprs rest =
      let names = good_names schema rule embeds ok in
      let left : List ℕ = left_lines rule.hooks 0 rule.nodes ++ flat_map (link_line rule.nodes) rule.left_links in
      let right : List ℕ = right_lines schema rule ++ flat_map (link_line rule.nodes) rule.right_links in
      let form = form_at schema marks rule in
      let last : List ℕ = pre_line schema rule ++ more in
      let last_parts : List (Part Role) = spell_pre form.pre parts in
      let right_parts : List (Part Role) = spell_items schema.dim (count_across (counted no_count form.left)) form.right last_parts in
      let from_left : List ℕ = codes "left\n" ++ (left ++ (codes "right\n" ++ (right ++ last))) in
      let regrouped : rule_lines schema rule ++ more ≡ codes "rule " ++ (rule.name ++ (params_text rule.params ++ 10 ∷ from_left)) =
      regroup (codes "rule ") rule.name (params_text rule.params) (codes "\nleft\n") (left_lines rule.hooks 0 rule.nodes) (flat_map (link_line rule.nodes) rule.left_links) (codes "right\n") (right_lines schema rule) (flat_map (link_line rule.nodes) rule.right_links) (pre_line schema rule) more in
      let behind_left : symbols_from (codes "right\n" ++ (right ++ last)) ≡ symbols_in (word Fixed (codes "right") ∷ right_parts) =
      symbols_from-word_blank (codes "right") 10 (right ++ last) (refl, refl) refl
      ∙ ap (λ (s : List Symbol). Word (codes "right") ∷ s)
      (ap (λ bytes. symbols_from (bytes ++ last)) (right_side schema rule ok)
      ∙ lines_symbols schema rule low names (lines_of rule Right) _ (right_marks schema rule marks) last last_parts (good_lines schema rule Right ok exprs)
      (pre_symbols schema rule low names _ (pre_marks schema rule marks) more parts exprs.pre rest)) in
      ap symbols_from regrouped
      ∙ symbols_from-word_blank (codes "rule") 32 (rule.name ++ (params_text rule.params ++ 10 ∷ from_left)) (refl, refl) refl
      ∙ ap (λ (s : List Symbol). Word (codes "rule") ∷ s)
      (symbols_from-word rule.name (params_text rule.params ++ 10 ∷ from_left) ok.name.0.1 (params_stop rule.params (10 ∷ from_left) refl)
      ∙ ap (λ (s : List Symbol). Word rule.name ∷ s)
      (params_symbols rule.params (behind (behind marks)) (10 ∷ from_left) (word Fixed (codes "left") ∷ spell_items schema.dim no_count form.left (word Fixed (codes "right") ∷ right_parts)) ok.params
      (symbols_from-blank 10 from_left refl
      ∙ symbols_from-word_blank (codes "left") 10 (left ++ (codes "right\n" ++ (right ++ last))) (refl, refl) refl
      ∙ ap (λ (s : List Symbol). Word (codes "left") ∷ s)
      (ap (λ bytes. symbols_from (bytes ++ (codes "right\n" ++ (right ++ last)))) (left_side schema rule)
      ∙ lines_symbols schema rule low names (lines_of rule Left) no_count (left_marks rule marks) (codes "right\n" ++ (right ++ last)) _ (good_lines schema rule Left ok exprs) behind_left))))

  pub rules_symbols : (k : ℕ) (rules : List Rule) (marks : List Mark) → AllByRecursion (IsWritable schema.dim) rules → AllByRecursion (HasGoodExprs schema) rules
      → symbols_from (flat_map (rule_lines schema) rules) ≡ symbols_in (spell_rules schema.dim k (forms_at schema marks rules) (the_end Fixed ∷ []))
  rules_symbols k [] marks ok exprs = symbols_from-end
  rules_symbols k (rule ∷ rules) marks ok exprs =
      rule_symbols (k + 1) rule marks (flat_map (rule_lines schema) rules) _ ok.0 exprs.0 (rules_symbols (k + 1) rules (behind_rule schema rule marks) ok.1 exprs.1)
