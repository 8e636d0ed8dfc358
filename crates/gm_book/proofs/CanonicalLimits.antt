-- The canonical form is one, and passes no limit.
use Rattle.std.proofs.Common.{◌≡◌, ℕ, ◌+◌, ◌≤◌, Bool, true, false, ltb, List, [], ◌∷◌, length, map, Option, Some, None, inl, inr, refl, ap, ◌∙◌, arith}
use Rattle.std.specs.List.{AllByRecursion}
use Rattle.std.proofs.lemmas.Bool.{le-ltb, cases_Bool}
use Rattle.std.proofs.lemmas.List.{length-append, length-map}
use Rattle.gm_model.specs.declared.word.Letter.{Letter}
use Rattle.gm_model.specs.declared.word.Letter.TheVariants as letters
use Rattle.gm_model.specs.declared.rule.Link.{Link}
use Rattle.gm_model.specs.declared.rule.Param.{Param}
use Rattle.gm_model.specs.declared.rule.Side.{Side}
use Rattle.gm_model.specs.declared.rule.Side.TheVariants.{Left, Right}
use Rattle.gm_model.specs.declared.schema.Embed.{Embed}
use Rattle.gm_model.specs.declared.schema.Schema.{Schema}
use Rattle.gm_model.specs.Symbols.{Mark}
use Rattle.gm_model.specs.Reading.{Part, IsWithin, the_end}
use Rattle.gm_model.specs.Rules.{Rule, RuleNode, Assignment, word_on}
use Rattle.gm_model.specs.Trees.{Tree}
use Rattle.gm_expr.specs.ExprText.{embed_name}
use Rattle.gm_expr.proofs.Canonical.{behind}
use Rattle.gm_expr.proofs.CanonicalMeaning.{good_at}
use Rattle.gm_expr.specs.inner.Writable.{AreGoodNames}
use Rattle.gm_forms.specs.BookText.{Item, NodeItem, LinkItem, RuleForm, hook_count, nodes_of, hooks_in, Role, Fixed, Count, no_count, count_after, count_across, counted, with_name, limit_of, spell_letters, spell_hook, spell_sets, spell_item, spell_items, spell_pre, spell_more_params, spell_params, spell_rule, spell_rules, IsSet, IsItem, IsParam, IsPre, IsRule, IsSentence}
use Rattle.gm_model.specs.Names.{is_among}
use Rattle.gm_book.proofs.CanonicalForm.{Line, NodeLine, LinkLine, behind_word, expr_at, sets_at, behind_set, behind_line, node_lines, line_before, sets_on, tie, hook_on, item_at, items_at, lines_of, pre_at, left_marks, right_marks, pre_marks, behind_rule, form_at, forms_at, node_names, params_at, behind_param, IsGoodName, IsGoodParam, IsGoodLetter, IsGoodLine, IsWritable, IsGoodValue, IsGoodSet, HasGoodExprs}
use Rattle.gm_book.proofs.CanonicalText.{good_names, good_lines}
use Rattle.gm_book.proofs.CanonicalRule.{rule_same, counted_seen, seen_after, names_on, side_names, left_seen, both_seen}
use Rattle.gm_book.proofs.CanonicalValues.{value_is, value_short, value_within}

-- ---- it is a form

-- only a left line has a hook, and only a right line assignments
abbrev IsLineOf : Side → Line → Type 0
IsLineOf Left (NodeLine name word hook sets) = sets ≡ []
IsLineOf Right (NodeLine name word hook sets) = hook ≡ false
IsLineOf side (LinkLine from label to) = Unit {0}

module _ (schema : Schema) (rule : Rule) (names : AreGoodNames schema.embeds rule.params rule.nodes) where
  sets_are_sets : (sets : List Assignment) (marks : List Mark) → AllByRecursion (IsGoodSet schema rule) sets → AllByRecursion (IsSet schema.dim) (sets_at schema rule marks sets)
  sets_are_sets [] marks good = tt
  sets_are_sets (set ∷ sets) marks good =
      let inside = behind (behind (behind marks)) in
      let free = (good_at (λ (embed : Embed). embed.name) schema.embeds set.embed names.embeds_are good.0.embed).1 in
      ((free, (expr_at schema rule inside set.tree, value_is schema rule names set.tree _ good.0.value inside)), sets_are_sets sets (behind_set schema rule set marks) good.1)

  line_is_item : (side : Side) (line : Line) (marks : List Mark) → IsLineOf side line → IsGoodLine schema rule line → IsItem schema.dim side (item_at schema rule marks line)
  line_is_item Left (NodeLine name word hook sets) marks fits good = (good.0.1, ap (sets_at schema rule (behind_word word hook marks)) fits)
  line_is_item Right (NodeLine name word hook sets) marks fits good = (good.0.1, fits, sets_are_sets sets (behind_word word hook marks) good.2)
  line_is_item Left (LinkLine from label to) marks fits good = (good.0.1, good.2.1)
  line_is_item Right (LinkLine from label to) marks fits good = (good.0.1, good.2.1)

  lines_are_items : (side : Side) (lines : List Line) (marks : List Mark) → AllByRecursion (IsLineOf side) lines → AllByRecursion (IsGoodLine schema rule) lines → AllByRecursion (IsItem schema.dim side) (items_at schema rule marks lines)
  lines_are_items side [] marks fit good = tt
  lines_are_items side (line ∷ lines) marks fit good = (line_is_item side line marks fit.0 good.0, lines_are_items side lines (behind_line schema rule line marks) fit.1 good.1)

  pre_is_pre : (kind : Option _) (marks : List Mark) → ((tree : Tree) → rule.pre ≡ Some tree → IsGoodValue schema rule tree kind) → IsPre schema.dim (pre_at schema rule marks rule.pre)
  pre_is_pre kind marks good = go rule.pre refl
    where
      go : (pre : Option Tree) → rule.pre ≡ pre → IsPre schema.dim (pre_at schema rule marks rule.pre)
      go None is = rw is tt
      go (Some tree) is = rw is (expr_at schema rule (behind marks) tree, value_is schema rule names tree kind (good tree is) (behind marks))

ties_fit : (side : Side) (nodes : List RuleNode) (links : List Link) → AllByRecursion (IsLineOf side) (map (tie nodes) links)
ties_fit side nodes [] = tt
ties_fit Left nodes (link ∷ links) = (tt, ties_fit Left nodes links)
ties_fit Right nodes (link ∷ links) = (tt, ties_fit Right nodes links)

left_lines_fit : (hook : ℕ → Bool) (x : ℕ) (nodes : List RuleNode) (lines : List Line) → AllByRecursion (IsLineOf Left) lines → AllByRecursion (IsLineOf Left) (node_lines Left hook x nodes lines)
left_lines_fit hook x [] lines rest = rest
left_lines_fit hook x (node ∷ nodes) lines rest = go node.left (left_lines_fit hook (x + 1) nodes lines rest)
  where
    go : (word : Option (List Letter)) → AllByRecursion (IsLineOf Left) (node_lines Left hook (x + 1) nodes lines) → AllByRecursion (IsLineOf Left) (line_before node.name word (hook x) [] (node_lines Left hook (x + 1) nodes lines))
    go None later = later
    go (Some word) later = (refl, later)

right_lines_fit : (x : ℕ) (nodes : List RuleNode) (lines : List Line) → AllByRecursion (IsLineOf Right) lines → AllByRecursion (IsLineOf Right) (node_lines Right (λ y. false) x nodes lines)
right_lines_fit x [] lines rest = rest
right_lines_fit x (node ∷ nodes) lines rest = go node.right (right_lines_fit (x + 1) nodes lines rest)
  where
    go : (word : Option (List Letter)) → AllByRecursion (IsLineOf Right) (node_lines Right (λ y. false) (x + 1) nodes lines) → AllByRecursion (IsLineOf Right) (line_before node.name word false node.sets (node_lines Right (λ y. false) (x + 1) nodes lines))
    go None later = later
    go (Some word) later = (refl, later)

hooks_counted : (names : List (List ℕ)) (items : List Item) → hook_count items ≡ length (hooks_in names items)
hooks_counted names [] = refl
hooks_counted names (NodeItem node word true sets ∷ items) = omega (arith, hooks_counted names items)
hooks_counted names (NodeItem node word false sets ∷ items) = hooks_counted names items
hooks_counted names (LinkItem from label to ∷ items) = hooks_counted names items

-- a rule has as many hooks as its form
pub as_many_hooks : (form : RuleForm) → hook_count form.left ≡ length (hooks_in (nodes_of form) form.left)
as_many_hooks form = hooks_counted (nodes_of form) form.left

params_are_params : (params : List Param) (marks : List Mark) → AllByRecursion IsGoodParam params → AllByRecursion IsParam (params_at marks params)
params_are_params [] marks good = tt
params_are_params (param ∷ params) marks good = (good.0.1, params_are_params params (behind_param marks) good.1)

form_is_rule : (version : ℕ) (schema : Schema) (rule : Rule) (marks : List Mark) → (version ≡ 1 → length rule.hooks ≤ 1) → AreGoodNames schema.embeds rule.params rule.nodes → IsWritable schema.dim rule → HasGoodExprs schema rule
    → IsRule version schema.dim (form_at schema marks rule)
form_is_rule version schema rule marks few names ok exprs = record {
  name = ok.name.1;
  params = params_are_params rule.params (behind (behind marks)) ok.params;
  left = lines_are_items schema rule names Left (lines_of rule Left) (left_marks rule marks) (left_lines_fit (hook_on rule Left) 0 rule.nodes (map (tie rule.nodes) rule.left_links) (ties_fit Left rule.nodes rule.left_links)) (good_lines schema rule Left ok exprs);
  right = lines_are_items schema rule names Right (lines_of rule Right) (right_marks schema rule marks) (right_lines_fit 0 rule.nodes (map (tie rule.nodes) rule.right_links) (ties_fit Right rule.nodes rule.right_links)) (good_lines schema rule Right ok exprs);
  pre = pre_is_pre schema rule names _ (pre_marks schema rule marks) exprs.pre;
  few_hooks = λ one. omega (arith, few one, as_many_hooks (form_at schema marks rule), ap (λ (r : Rule). length r.hooks) (rule_same schema rule ok marks));
}

-- in version 1 the rule has one hook at most
abbrev pub HasFewHooks : ℕ → Rule → Type 0
HasFewHooks version rule = version ≡ 1 → length rule.hooks ≤ 1

pub forms_are_rules : (version : ℕ) (schema : Schema) (rules : List Rule) (marks : List Mark) → AllByRecursion (λ (embed : Embed). IsGoodName embed.name) schema.embeds → AllByRecursion (HasFewHooks version) rules → AllByRecursion (IsWritable schema.dim) rules
    → AllByRecursion (HasGoodExprs schema) rules → AllByRecursion (IsRule version schema.dim) (forms_at schema marks rules)
forms_are_rules version schema [] marks embeds few ok exprs = tt
forms_are_rules version schema (rule ∷ rules) marks embeds few ok exprs =
    (form_is_rule version schema rule marks few.0 (good_names schema rule embeds ok.0) ok.0 exprs.0, forms_are_rules version schema rules (behind_rule schema rule marks) embeds few.1 ok.1 exprs.1)

-- ---- how many there are

pub record AreFew (count : Count) : Type 0 where
  pub nodes : length count.nodes ≤ 32
  pub links : count.links ≤ 256

longer : (names : List (List ℕ)) (name : List ℕ) → length names ≤ length (with_name names name)
longer names name = elim (cases_Bool (is_among names name)) [
  | inl is ↦ rw is (omega arith)
  | inr none ↦ rw none (omega (arith, length-append names (name ∷ [])))
]

few_before : (items : List Item) (count : Count) → AreFew (counted count items) → AreFew count
few_before [] count few = few
few_before (NodeItem node word hook sets ∷ items) count few =
    let next = few_before items (count_after count (NodeItem node word hook sets)) few in
    record { nodes = omega (arith, next.nodes, longer count.nodes node.name); links = next.links }
few_before (LinkItem from label to ∷ items) count few =
    let next = few_before items (count_after count (LinkItem from label to)) few in
    record { nodes = next.nodes; links = omega (arith, next.links) }

links_counted : (schema : Schema) (rule : Rule) (side : Side) (hook : ℕ → Bool) (all : List RuleNode) (x : ℕ) (nodes : List RuleNode) (links : List Link) (count : Count) (marks : List Mark)
    → (counted count (items_at schema rule marks (node_lines side hook x nodes (map (tie all) links)))).links ≡ count.links + length links
links_counted schema rule side hook all x [] [] count marks = omega arith
links_counted schema rule side hook all x [] (link ∷ links) count marks = omega (arith, links_counted schema rule side hook all x [] links (count_after count (item_at schema rule marks (tie all link))) (behind_line schema rule (tie all link) marks))
links_counted schema rule side hook all x (node ∷ nodes) links count marks = go (word_on side node) (links_counted schema rule side hook all (x + 1) nodes links)
  where
    go : (word : Option (List Letter)) → ((count : Count) (marks : List Mark) → (counted count (items_at schema rule marks (node_lines side hook (x + 1) nodes (map (tie all) links)))).links ≡ count.links + length links)
        → (counted count (items_at schema rule marks (line_before node.name word (hook x) (sets_on side node) (node_lines side hook (x + 1) nodes (map (tie all) links))))).links ≡ count.links + length links
    go None rest = rest count marks
    go (Some word) rest = rest (count_after count (item_at schema rule marks (NodeLine node.name word (hook x) (sets_on side node)))) (behind_line schema rule (NodeLine node.name word (hook x) (sets_on side node)) marks)

module _ (schema : Schema) (rule : Rule) (marks : List Mark) (ok : IsWritable schema.dim rule) where
  left_counted : (counted no_count (form_at schema marks rule).left).nodes ≡ node_names ok.left_nodes
  left_counted = counted_seen no_count (form_at schema marks rule).left ∙ ap (seen_after []) (side_names schema rule ok Left (left_marks rule marks)) ∙ left_seen schema rule ok

  left_few : AreFew (counted no_count (form_at schema marks rule).left)
  left_few = record {
    nodes = omega (arith, ap length left_counted, length-map ok.left_nodes (λ (node : RuleNode). node.name), ap length ok.left_first, length-append ok.left_nodes ok.added_nodes, ok.few_nodes);
    links = omega (arith, links_counted schema rule Left (hook_on rule Left) rule.nodes 0 rule.nodes rule.left_links no_count (left_marks rule marks), ok.few_links Left);
  }

  right_few : AreFew (counted (count_across (counted no_count (form_at schema marks rule).left)) (form_at schema marks rule).right)
  right_few =
      let across = count_across (counted no_count (form_at schema marks rule).left) in
      let all : (counted across (form_at schema marks rule).right).nodes ≡ node_names rule.nodes =
      counted_seen across (form_at schema marks rule).right ∙ ap (seen_after across.nodes) (side_names schema rule ok Right (right_marks schema rule marks))
      ∙ ap (λ seen. seen_after seen (names_on Right rule.nodes)) left_counted ∙ both_seen schema rule ok in
      record {
        nodes = omega (arith, ap length all, length-map rule.nodes (λ (node : RuleNode). node.name), ok.few_nodes);
        links = omega (arith, links_counted schema rule Right (hook_on rule Right) rule.nodes 0 rule.nodes rule.right_links across (right_marks schema rule marks), ok.few_links Right);
      }

-- ---- no limit is passed

abbrev IsIn : List (Part Role) → Type 0
IsIn parts = IsWithin IsSentence limit_of parts

module _ (n : ℕ) where
  letters_within : (k : ℕ) (word : List Letter) (parts : List (Part Role)) → k + length word ≤ 8 → AllByRecursion (IsGoodLetter n) word → IsIn parts → IsIn (spell_letters n k word parts)
  letters_within k [] parts short good later = later
  letters_within k (letters.At i ∷ word) parts short good later =
      let label : ltb n i ≡ false = le-ltb n i good.0 in
      let room : ltb 8 (k + 1) ≡ false = le-ltb 8 (k + 1) (omega arith) in
      (rw (label, room) refl, letters_within (k + 1) word parts (omega arith) good.1 later)
  letters_within k (letters.Gone ∷ word) parts short good later =
      let room : ltb 8 (k + 1) ≡ false = le-ltb 8 (k + 1) (omega arith) in
      (rw room refl, letters_within (k + 1) word parts (omega arith) good.1 later)

  hook_within : (hook : Bool) (parts : List (Part Role)) → IsIn parts → IsIn (spell_hook hook parts)
  hook_within true parts later = (refl, later)
  hook_within false parts later = later

module _ (schema : Schema) (rule : Rule) (names : AreGoodNames schema.embeds rule.params rule.nodes) where
  sets_within : (sets : List Assignment) (marks : List Mark) (parts : List (Part Role)) → AllByRecursion (IsGoodSet schema rule) sets → IsIn parts → IsIn (spell_sets (sets_at schema rule marks sets) parts)
  sets_within [] marks parts good later = later
  sets_within (set ∷ sets) marks parts good later =
      let inside = behind (behind (behind marks)) in
      let is = good_at (λ (embed : Embed). embed.name) schema.embeds set.embed names.embeds_are good.0.embed in
      let short : ltb 32 (length (embed_name schema.embeds set.embed)) ≡ false = le-ltb 32 (length (embed_name schema.embeds set.embed)) is.0.0 in
      (refl, (rw short refl, (refl, value_within _ _ (value_short schema rule names set.tree _ good.0.value inside) (sets_within sets (behind_set schema rule set marks) parts good.1 later))))

  line_within : (line : Line) (count : Count) (marks : List Mark) (parts : List (Part Role)) → IsGoodLine schema rule line → AreFew (count_after count (item_at schema rule marks line)) → IsIn parts → IsIn (spell_item schema.dim count (item_at schema rule marks line) parts)
  line_within (NodeLine name word hook sets) count marks parts good few later =
      let short : ltb 32 (length name) ≡ false = le-ltb 32 (length name) good.0.0.0 in
      let room : ltb 32 (length (with_name count.nodes name)) ≡ false = le-ltb 32 (length (with_name count.nodes name)) few.nodes in
      (rw short refl, (rw room refl, letters_within schema.dim 0 word _ (omega (arith, good.1.0)) good.1.1 (refl, hook_within schema.dim hook _ (sets_within sets (behind_word word hook marks) parts good.2 later))))
  line_within (LinkLine from label to) count marks parts good few later =
      let short : ltb 32 (length from) ≡ false = le-ltb 32 (length from) good.0.0.0 in
      let last : ltb 32 (length to) ≡ false = le-ltb 32 (length to) good.2.0.0 in
      let room : ltb 256 (count.links + 1) ≡ false = le-ltb 256 (count.links + 1) few.links in
      let low : ltb schema.dim label ≡ false = le-ltb schema.dim label good.1 in
      (rw short refl, (rw room refl, (rw low refl, (refl, (rw last refl, later)))))

  lines_within : (lines : List Line) (count : Count) (marks : List Mark) (parts : List (Part Role)) → AllByRecursion (IsGoodLine schema rule) lines → AreFew (counted count (items_at schema rule marks lines)) → IsIn parts → IsIn (spell_items schema.dim count (items_at schema rule marks lines) parts)
  lines_within [] count marks parts good few later = later
  lines_within (line ∷ lines) count marks parts good few later =
      line_within line count marks _ good.0 (few_before (items_at schema rule (behind_line schema rule line marks) lines) (count_after count (item_at schema rule marks line)) few)
      (lines_within lines (count_after count (item_at schema rule marks line)) (behind_line schema rule line marks) parts good.1 few later)

  pre_within : (kind : Option _) (marks : List Mark) (parts : List (Part Role)) → ((tree : Tree) → rule.pre ≡ Some tree → IsGoodValue schema rule tree kind) → IsIn parts → IsIn (spell_pre (pre_at schema rule marks rule.pre) parts)
  pre_within kind marks parts good later = go rule.pre refl
    where
      go : (pre : Option Tree) → rule.pre ≡ pre → IsIn (spell_pre (pre_at schema rule marks rule.pre) parts)
      go None is = rw is later
      go (Some tree) is = rw is (refl, value_within _ parts (value_short schema rule names tree kind (good tree is) (behind marks)) later)

more_params_within : (k : ℕ) (params : List Param) (marks : List Mark) (parts : List (Part Role)) → k + length params ≤ 8 → AllByRecursion IsGoodParam params → IsIn parts → IsIn (spell_more_params k (params_at marks params) parts)
more_params_within k [] marks parts few good later = (refl, later)
more_params_within k (param ∷ params) marks parts few good later =
    let short : ltb 32 (length param.name) ≡ false = le-ltb 32 (length param.name) good.0.0.0 in
    let room : ltb 8 (k + 1) ≡ false = le-ltb 8 (k + 1) (omega (arith, few)) in
    (refl, (rw (short, room) refl, (refl, (refl, more_params_within (k + 1) params (behind_param marks) parts (omega (arith, few)) good.1 later))))

params_within : (params : List Param) (marks : List Mark) (parts : List (Part Role)) → length params ≤ 8 → AllByRecursion IsGoodParam params → IsIn parts → IsIn (spell_params (params_at marks params) parts)
params_within [] marks parts few good later = later
params_within (param ∷ params) marks parts few good later =
    let short : ltb 32 (length param.name) ≡ false = le-ltb 32 (length param.name) good.0.0.0 in
    (refl, (rw short refl, (refl, (refl, more_params_within 1 params (behind_param marks) parts (omega (arith, few)) good.1 later))))

module _ (schema : Schema) where
  rule_within : (k : ℕ) (rule : Rule) (marks : List Mark) (parts : List (Part Role)) → k ≤ 256 → AreGoodNames schema.embeds rule.params rule.nodes → IsWritable schema.dim rule → HasGoodExprs schema rule → IsIn parts → IsIn (spell_rule schema.dim k (form_at schema marks rule) parts)
  rule_within k rule marks parts few names ok exprs later =
      let room : ltb 256 k ≡ false = le-ltb 256 k few in
      let short : ltb 32 (length rule.name) ≡ false = le-ltb 32 (length rule.name) ok.name.0.0 in
      let across = count_across (counted no_count (form_at schema marks rule).left) in (
        rw room refl,
        (
          rw short refl,
          params_within rule.params (behind (behind marks)) _ ok.few_params ok.params (
            refl,
            lines_within schema rule names (lines_of rule Left) no_count (left_marks rule marks) _ (good_lines schema rule Left ok exprs) (left_few schema rule marks ok) (
              refl,
              lines_within schema rule names (lines_of rule Right) across (right_marks schema rule marks) _ (good_lines schema rule Right ok exprs) (right_few schema rule marks ok)
                  (pre_within schema rule names _ (pre_marks schema rule marks) parts exprs.pre later),
            ),
          ),
        ),
      )

  pub rules_within : (k : ℕ) (rules : List Rule) (marks : List Mark) → AllByRecursion (λ (embed : Embed). IsGoodName embed.name) schema.embeds → k + length rules ≤ 256 → AllByRecursion (IsWritable schema.dim) rules → AllByRecursion (HasGoodExprs schema) rules
      → IsIn (spell_rules schema.dim k (forms_at schema marks rules) (the_end Fixed ∷ []))
  rules_within k [] marks embeds few ok exprs = (refl, tt)
  rules_within k (rule ∷ rules) marks embeds few ok exprs =
      rule_within (k + 1) rule marks _ (omega (arith, few)) (good_names schema rule embeds ok.0) ok.0 exprs.0 (rules_within (k + 1) rules (behind_rule schema rule marks) embeds (omega (arith, few)) ok.1 exprs.1)
