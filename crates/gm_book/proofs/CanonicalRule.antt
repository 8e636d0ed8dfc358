-- The canonical form of a rule gives the rule.
use Rattle.std.proofs.Common.{◌≡◌, ℕ, ◌+◌, Bool, true, false, ◌&&◌, if◌then◌else◌, List, [], ◌∷◌, ◌++◌, length, map, Option, Some, None, is_some, refl, sym, ap, subst, ◌∙◌, append_assoc}
use Rattle.std.specs.Prelude.{slice_get}
use Rattle.std.specs.Str.{bytes_eq}
use Rattle.std.specs.List.{position_or_len, AllByRecursion}
use Rattle.std.proofs.lemmas.Bool.{or_parts}
use Rattle.std.proofs.lemmas.List.{append-nil, map-append, length-append}
use Rattle.std.proofs.lemmas.Option.{slice_get-map}
use Rattle.gm_model.specs.declared.word.Letter.{Letter}
use Rattle.gm_model.specs.declared.rule.Link.{Link}
use Rattle.gm_model.specs.declared.rule.Param.{Param}
use Rattle.gm_model.specs.declared.rule.Side.{Side}
use Rattle.gm_model.specs.declared.rule.Side.TheVariants.{Left, Right}
use Rattle.gm_model.specs.Symbols.{Mark}
use Rattle.gm_model.specs.declared.schema.Schema.{Schema}
use Rattle.gm_model.specs.Trees.{Tree}
use Rattle.gm_model.specs.Rules.{Rule, RuleNode, Assignment, has_word, word_on, links_on, name_at}
use Rattle.gm_forms.specs.BookText.{Item, Count, NodeItem, LinkItem, no_count, count_after, counted, with_name, names_of, nodes_in, nodes_of, word_in, links_in, hooks_in, node_in, param_of, rule_in}
use Rattle.gm_model.specs.Names.{is_among}
use Rattle.gm_expr.proofs.Canonical.{behind}
use Rattle.gm_book.proofs.CanonicalForm.{NodeLine, node_lines, line_before, sets_on, tie, hook_on, lines_of, items_at, behind_line, form_at, params_at, behind_param, left_marks, right_marks, AreNew, number_if, numbers_where, node_names, IsGoodNode, IsGoodLink, IsWritable}
use Rattle.gm_book.proofs.CanonicalText.{each}
use Rattle.gm_book.proofs.DifferentNames.{same_bytes, among_last, new_front, new_behind, rest_differ, number_behind, number_there}

-- ---- the nodes that are mentioned

-- the names, and then those of the others that are new
abbrev pub seen_after : List (List ℕ) → List (List ℕ) → List (List ℕ)
seen_after seen [] = seen
seen_after seen (name ∷ names) = seen_after (with_name seen name) names

pub counted_seen : (count : Count) (items : List Item) → (counted count items).nodes ≡ seen_after count.nodes (names_of (nodes_in items))
counted_seen count [] = refl
counted_seen count (NodeItem node word hook sets ∷ items) = counted_seen (count_after count (NodeItem node word hook sets)) items
counted_seen count (LinkItem from label to ∷ items) = counted_seen (count_after count (LinkItem from label to)) items

pub seen_new : (seen names : List (List ℕ)) → AreNew seen names → seen_after seen names ≡ seen ++ names
seen_new seen [] new = sym (append-nil seen)
seen_new seen (name ∷ names) new = rw new.0 (seen_new (seen ++ name ∷ []) names new.1 ∙ append_assoc seen (name ∷ []) names)

seen_known : (seen names : List (List ℕ)) → AllByRecursion (λ name. is_among seen name ≡ true) names → seen_after seen names ≡ seen
seen_known seen [] known = refl
seen_known seen (name ∷ names) known = rw known.0 (seen_known seen names known.1)

seen_append : (seen front behind : List (List ℕ)) → seen_after seen (front ++ behind) ≡ seen_after (seen_after seen front) behind
seen_append seen [] behind = refl
seen_append seen (name ∷ front) behind = seen_append (with_name seen name) front behind

-- ---- the nodes of a side

abbrev pub name_before : List ℕ → Option (List Letter) → List (List ℕ) → List (List ℕ)
name_before name None names = names
name_before name (Some word) names = name ∷ names

-- the names of the nodes that have a word on the side
abbrev pub names_on : Side → List RuleNode → List (List ℕ)
names_on side [] = []
names_on side (node ∷ nodes) = name_before node.name (word_on side node) (names_on side nodes)

module _ (schema : Schema) (rule : Rule) where
  ties_without_nodes : (nodes : List RuleNode) (links : List Link) (marks : List Mark) → names_of (nodes_in (items_at schema rule marks (map (tie nodes) links))) ≡ []
  ties_without_nodes nodes [] marks = refl
  ties_without_nodes nodes (link ∷ links) marks = ties_without_nodes nodes links (behind_line schema rule (tie nodes link) marks)

  pub nodes_on : (side : Side) (hook : ℕ → Bool) (x : ℕ) (nodes all : List RuleNode) (links : List Link) (marks : List Mark) → names_of (nodes_in (items_at schema rule marks (node_lines side hook x nodes (map (tie all) links)))) ≡ names_on side nodes
  nodes_on side hook x [] all links marks = ties_without_nodes all links marks
  nodes_on side hook x (node ∷ nodes) all links marks = go (word_on side node) (nodes_on side hook (x + 1) nodes all links)
    where
      go : (word : Option (List Letter)) → ((marks : List Mark) → names_of (nodes_in (items_at schema rule marks (node_lines side hook (x + 1) nodes (map (tie all) links)))) ≡ names_on side nodes)
          → names_of (nodes_in (items_at schema rule marks (line_before node.name word (hook x) (sets_on side node) (node_lines side hook (x + 1) nodes (map (tie all) links))))) ≡ name_before node.name word (names_on side nodes)
      go None rest = rest marks
      go (Some word) rest = ap (λ names. node.name ∷ names) (rest (behind_line schema rule (NodeLine node.name word (hook x) (sets_on side node)) marks))

pub on_append : (side : Side) (front behind : List RuleNode) → names_on side (front ++ behind) ≡ names_on side front ++ names_on side behind
on_append side [] behind = refl
on_append side (node ∷ front) behind = go (word_on side node) (on_append side front behind)
  where
    go : (word : Option (List Letter)) → names_on side (front ++ behind) ≡ names_on side front ++ names_on side behind → name_before node.name word (names_on side (front ++ behind)) ≡ name_before node.name word (names_on side front) ++ names_on side behind
    go None rest = rest
    go (Some word) rest = ap (λ names. node.name ∷ names) rest

all_on : (side : Side) (nodes : List RuleNode) → AllByRecursion (λ (node : RuleNode). is_some (word_on side node) ≡ true) nodes → names_on side nodes ≡ node_names nodes
all_on side [] all = refl
all_on side (node ∷ nodes) all = go (word_on side node) all.0 (all_on side nodes all.1)
  where
    go : (word : Option (List Letter)) → is_some word ≡ true → names_on side nodes ≡ node_names nodes → name_before node.name word (names_on side nodes) ≡ node.name ∷ node_names nodes
    go None is rest = absurd cc
    go (Some word) is rest = ap (λ names. node.name ∷ names) rest

none_on : (side : Side) (nodes : List RuleNode) → AllByRecursion (λ (node : RuleNode). is_some (word_on side node) ≡ false) nodes → names_on side nodes ≡ []
none_on side [] all = refl
none_on side (node ∷ nodes) all = go (word_on side node) all.0 (none_on side nodes all.1)
  where
    go : (word : Option (List Letter)) → is_some word ≡ false → names_on side nodes ≡ [] → name_before node.name word (names_on side nodes) ≡ []
    go None is rest = rest
    go (Some word) is rest = absurd cc

-- each name of a side is one of the nodes'
on_known : (side : Side) (front nodes : List RuleNode) → AllByRecursion (λ name. is_among (node_names (front ++ nodes)) name ≡ true) (names_on side nodes)
on_known side front [] = tt
on_known side front (node ∷ nodes) = go (word_on side node)
    (subst (λ all. AllByRecursion (λ name. is_among (node_names all) name ≡ true) (names_on side nodes)) (append_assoc front (node ∷ []) nodes) (on_known side (front ++ node ∷ []) nodes))
  where
    go : (word : Option (List Letter)) → AllByRecursion (λ name. is_among (node_names (front ++ node ∷ nodes)) name ≡ true) (names_on side nodes) → AllByRecursion (λ name. is_among (node_names (front ++ node ∷ nodes)) name ≡ true) (name_before node.name word (names_on side nodes))
    go None rest = rest
    go (Some word) rest = (ap (λ names. is_among names node.name) (map-append (λ (n : RuleNode). n.name) front (node ∷ nodes)) ∙ among_last (node_names front) (node_names nodes) node.name, rest)

-- ---- the words

module _ (schema : Schema) (rule : Rule) where
  word_absent_in_ties : (nodes : List RuleNode) (links : List Link) (marks : List Mark) (name : List ℕ) → word_in (items_at schema rule marks (map (tie nodes) links)) name ≡ None
  word_absent_in_ties nodes [] marks name = refl
  word_absent_in_ties nodes (link ∷ links) marks name = word_absent_in_ties nodes links (behind_line schema rule (tie nodes link) marks) name

  module _ (side : Side) (hook : ℕ → Bool) (all : List RuleNode) (links : List Link) where
    abbrev items_from : List Mark → ℕ → List RuleNode → List Item
    items_from marks x nodes = items_at schema rule marks (node_lines side hook x nodes (map (tie all) links))

    -- a node of another name is passed over
    passed : (node : RuleNode) (nodes : List RuleNode) (x : ℕ) (marks : List Mark) (name : List ℕ) (found : Option (List Letter)) → bytes_eq name node.name ≡ false
        → ((marks : List Mark) → word_in (items_from marks (x + 1) nodes) name ≡ found) → word_in (items_from marks x (node ∷ nodes)) name ≡ found
    passed node nodes x marks name found other rest = go (word_on side node)
      where
        go : (word : Option (List Letter)) → word_in (items_at schema rule marks (line_before node.name word (hook x) (sets_on side node) (node_lines side hook (x + 1) nodes (map (tie all) links)))) name ≡ found
        go None = rest marks
        go (Some word) = rw other (rest (behind_line schema rule (NodeLine node.name word (hook x) (sets_on side node)) marks))

    word_absent : (nodes : List RuleNode) (x : ℕ) (marks : List Mark) (name : List ℕ) → is_among (node_names nodes) name ≡ false → word_in (items_from marks x nodes) name ≡ None
    word_absent [] x marks name none = word_absent_in_ties all links marks name
    word_absent (node ∷ nodes) x marks name none =
        let parts = or_parts (bytes_eq name node.name) (is_among (node_names nodes) name) none in
        passed node nodes x marks name None parts.0 (λ marks. word_absent nodes (x + 1) marks name parts.1)

    word_there : (front : List RuleNode) (node : RuleNode) (behind : List RuleNode) (x : ℕ) (marks : List Mark) → is_among (node_names front) node.name ≡ false → is_among (node_names behind) node.name ≡ false
        → word_in (items_from marks x (front ++ node ∷ behind)) node.name ≡ word_on side node
    word_there [] node behind x marks first last = go (word_on side node)
      where
        go : (word : Option (List Letter)) → word_in (items_at schema rule marks (line_before node.name word (hook x) (sets_on side node) (node_lines side hook (x + 1) behind (map (tie all) links)))) node.name ≡ word
        go None = word_absent behind (x + 1) marks node.name last
        go (Some word) = rw (same_bytes node.name) refl
    word_there (other ∷ front) node behind x marks first last =
        let parts = or_parts (bytes_eq node.name other.name) (is_among (node_names front) node.name) first in
        passed other (front ++ node ∷ behind) x marks node.name (word_on side node) parts.0 (λ marks. word_there front node behind (x + 1) marks parts.1 last)

    -- ---- links

    module _ (names : List (List ℕ)) where
      links_of_ties : (ties : List Link) (marks : List Mark)
          → AllByRecursion (λ (link : Link). (position_or_len (bytes_eq (name_at all link.from)) names ≡ link.from) × (position_or_len (bytes_eq (name_at all link.to)) names ≡ link.to)) ties
          → links_in names (items_at schema rule marks (map (tie all) ties)) ≡ ties
      links_of_ties [] marks named = refl
      links_of_ties (link ∷ ties) marks named = rw (named.0.0, named.0.1, links_of_ties ties (behind_line schema rule (tie all link) marks) named.1) refl

      links_behind : (found : List Link) (nodes : List RuleNode) (x : ℕ) (marks : List Mark) → ((marks : List Mark) → links_in names (items_at schema rule marks (map (tie all) links)) ≡ found) → links_in names (items_from marks x nodes) ≡ found
      links_behind found [] x marks rest = rest marks
      links_behind found (node ∷ nodes) x marks rest = go (word_on side node) (λ marks. links_behind found nodes (x + 1) marks rest)
        where
          go : (word : Option (List Letter)) → ((marks : List Mark) → links_in names (items_from marks (x + 1) nodes) ≡ found)
              → links_in names (items_at schema rule marks (line_before node.name word (hook x) (sets_on side node) (node_lines side hook (x + 1) nodes (map (tie all) links)))) ≡ found
          go None later = later marks
          go (Some word) later = later (behind_line schema rule (NodeLine node.name word (hook x) (sets_on side node)) marks)

-- ---- hooks

module _ (schema : Schema) (rule : Rule) (hook : ℕ → Bool) (all : List RuleNode) (links : List Link) (names : List (List ℕ)) where
  hooks_of_ties : (ties : List Link) (marks : List Mark) → hooks_in names (items_at schema rule marks (map (tie all) ties)) ≡ []
  hooks_of_ties [] marks = refl
  hooks_of_ties (link ∷ ties) marks = hooks_of_ties ties (behind_line schema rule (tie all link) marks)

  hooks_there : (front : List (List ℕ)) (nodes : List RuleNode) (marks : List Mark) → names ≡ front ++ node_names nodes → AreNew front (node_names nodes)
      → hooks_in names (items_from schema rule Left hook all links marks (length front) nodes) ≡ numbers_where hook (length front) nodes
  hooks_there front [] marks split new = hooks_of_ties links marks
  hooks_there front (node ∷ nodes) marks split new =
      let longer : length (front ++ node.name ∷ []) ≡ length front + 1 = length-append front (node.name ∷ []) in
      let here : position_or_len (bytes_eq node.name) names ≡ length front = ap (position_or_len (bytes_eq node.name)) split ∙ number_behind front (node_names nodes) node.name new.0 in
      let later : (marks : List Mark) → hooks_in names (items_from schema rule Left hook all links marks (length front + 1) nodes) ≡ numbers_where hook (length front + 1) nodes = λ marks.
      subst (λ x. hooks_in names (items_from schema rule Left hook all links marks x nodes) ≡ numbers_where hook x nodes) longer
      (hooks_there (front ++ node.name ∷ []) nodes marks (split ∙ sym (append_assoc front (node.name ∷ []) (node_names nodes))) new.1) in
      go node.left refl (hook (length front)) here later
    where
      go : (word : Option (List Letter)) → node.left ≡ word → (is_hook : Bool) → position_or_len (bytes_eq node.name) names ≡ length front
          → ((marks : List Mark) → hooks_in names (items_from schema rule Left hook all links marks (length front + 1) nodes) ≡ numbers_where hook (length front + 1) nodes)
          → hooks_in names (items_at schema rule marks (line_before node.name word is_hook [] (node_lines Left hook (length front + 1) nodes (map (tie all) links)))) ≡ number_if (is_some word && is_hook) (length front) (numbers_where hook (length front + 1) nodes)
      go None is is_hook here later = later marks
      go (Some word) is true here later = rw (here, later (behind_line schema rule (NodeLine node.name word true []) marks)) refl
      go (Some word) is false here later = later (behind_line schema rule (NodeLine node.name word false []) marks)

-- ---- assignments

-- the assignments of the node with the name
abbrev pub assigned : List RuleNode → List ℕ → List Assignment
assigned [] name = []
assigned (node ∷ nodes) name = if bytes_eq name node.name then node.sets else assigned nodes name

assigned_there : (front : List RuleNode) (node : RuleNode) (behind : List RuleNode) → is_among (node_names front) node.name ≡ false → assigned (front ++ node ∷ behind) node.name ≡ node.sets
assigned_there [] node behind first = rw (same_bytes node.name) refl
assigned_there (other ∷ front) node behind first =
    let parts = or_parts (bytes_eq node.name other.name) (is_among (node_names front) node.name) first in
    rw parts.0 (assigned_there front node behind parts.1)

-- ---- all of it

rule_from : (rule : Rule) (params : List Param) (nodes : List RuleNode) (left right : List Link) (hooks : List ℕ) (pre : Option Tree) → params ≡ rule.params → nodes ≡ rule.nodes → left ≡ rule.left_links → right ≡ rule.right_links → hooks ≡ rule.hooks → pre ≡ rule.pre
    → (let r : Rule = record { name = rule.name; params = params; nodes = nodes; left_links = left; right_links = right; hooks = hooks; pre = pre } in r) ≡ rule
rule_from rule params nodes left right hooks pre a b c d e f = rw (a, b, c, d, e, f) refl

pub params_same : (params : List Param) (marks : List Mark) → map param_of (params_at marks params) ≡ params
params_same [] marks = refl
params_same (param ∷ params) marks = ap (λ (others : List Param). param ∷ others) (params_same params (behind_param marks))

module _ (schema : Schema) (rule : Rule) (ok : IsWritable schema.dim rule) where
  number_of_named : (side : Side) (x : ℕ) → has_word rule side x ≡ true → position_or_len (bytes_eq (name_at rule.nodes x)) (node_names rule.nodes) ≡ x
  number_of_named side x has = go (slice_get rule.nodes x) refl
    where
      go : (found : Option RuleNode) → slice_get rule.nodes x ≡ found → position_or_len (bytes_eq (name_at rule.nodes x)) (node_names rule.nodes) ≡ x
      go None is = absurd (let none : has_word rule side x ≡ false = rw is refl in cc)
      go (Some node) is = rw is (number_there (node_names rule.nodes) x node.name ok.differ (slice_get-map (λ (m : RuleNode). m.name) rule.nodes x ∙ rw is refl))

  numbers_of_links : (side : Side) (links : List Link) → AllByRecursion (IsGoodLink schema.dim rule side) links
      → AllByRecursion (λ (link : Link). (position_or_len (bytes_eq (name_at rule.nodes link.from)) (node_names rule.nodes) ≡ link.from) × (position_or_len (bytes_eq (name_at rule.nodes link.to)) (node_names rule.nodes) ≡ link.to)) links
  numbers_of_links side [] good = tt
  numbers_of_links side (link ∷ links) good = ((number_of_named side link.from good.0.from, number_of_named side link.to good.0.to), numbers_of_links side links good.1)

  links_same : (side : Side) (marks : List Mark) → links_in (node_names rule.nodes) (items_at schema rule marks (lines_of rule side)) ≡ links_on rule side
  links_same side marks =
      links_behind schema rule side (hook_on rule side) rule.nodes (links_on rule side) (node_names rule.nodes) (links_on rule side) rule.nodes 0 marks
      (λ marks. links_of_ties schema rule side (hook_on rule side) rule.nodes (links_on rule side) (node_names rule.nodes) (links_on rule side) marks (numbers_of_links side (links_on rule side) (ok.links side)))

  hooks_same : (marks : List Mark) → hooks_in (node_names rule.nodes) (items_at schema rule marks (lines_of rule Left)) ≡ rule.hooks
  hooks_same marks = hooks_there schema rule (hook_on rule Left) rule.nodes rule.left_links (node_names rule.nodes) [] rule.nodes marks refl ok.differ ∙ ok.hooks

  -- the names of the side's nodes, in order
  pub side_names : (side : Side) (marks : List Mark) → names_of (nodes_in (items_at schema rule marks (lines_of rule side))) ≡ names_on side rule.nodes
  side_names side marks = nodes_on schema rule side (hook_on rule side) 0 rule.nodes rule.nodes (links_on rule side) marks

  names_split : node_names rule.nodes ≡ node_names ok.left_nodes ++ node_names ok.added_nodes
  names_split = ap node_names ok.left_first ∙ map-append (λ (node : RuleNode). node.name) ok.left_nodes ok.added_nodes

  both_new : AreNew [] (node_names ok.left_nodes ++ node_names ok.added_nodes)
  both_new = subst (AreNew []) names_split ok.differ

  pub left_names : names_on Left rule.nodes ≡ node_names ok.left_nodes
  left_names =
      ap (names_on Left) ok.left_first ∙ on_append Left ok.left_nodes ok.added_nodes
      ∙ ap (λ names. names ++ names_on Left ok.added_nodes) (all_on Left ok.left_nodes ok.left)
      ∙ ap (λ names. node_names ok.left_nodes ++ names) (none_on Left ok.added_nodes (each _ _ (λ node both. both.0) ok.added_nodes ok.added)) ∙ append-nil (node_names ok.left_nodes)

  right_names : names_on Right rule.nodes ≡ names_on Right ok.left_nodes ++ node_names ok.added_nodes
  right_names =
      ap (names_on Right) ok.left_first ∙ on_append Right ok.left_nodes ok.added_nodes
      ∙ ap (λ names. names_on Right ok.left_nodes ++ names) (all_on Right ok.added_nodes (each _ _ (λ node both. both.1) ok.added_nodes ok.added))

  pub left_seen : seen_after [] (names_on Left rule.nodes) ≡ node_names ok.left_nodes
  left_seen = ap (seen_after []) left_names ∙ seen_new [] (node_names ok.left_nodes) (new_front [] (node_names ok.left_nodes) (node_names ok.added_nodes) both_new)

  pub both_seen : seen_after (node_names ok.left_nodes) (names_on Right rule.nodes) ≡ node_names rule.nodes
  both_seen =
      ap (seen_after (node_names ok.left_nodes)) right_names ∙ seen_append (node_names ok.left_nodes) (names_on Right ok.left_nodes) (node_names ok.added_nodes)
      ∙ ap (λ seen. seen_after seen (node_names ok.added_nodes)) (seen_known (node_names ok.left_nodes) (names_on Right ok.left_nodes) (on_known Right [] ok.left_nodes))
      ∙ seen_new (node_names ok.left_nodes) (node_names ok.added_nodes) (new_behind [] (node_names ok.left_nodes) (node_names ok.added_nodes) both_new) ∙ sym names_split

  module _ (marks : List Mark) where
    pub nodes_same : nodes_of (form_at schema marks rule) ≡ node_names rule.nodes
    nodes_same =
        let left = items_at schema rule (left_marks rule marks) (lines_of rule Left) in
        let right = items_at schema rule (right_marks schema rule marks) (lines_of rule Right) in
        counted_seen (counted no_count left) right
        ∙ ap (seen_after (counted no_count left).nodes) (side_names Right (right_marks schema rule marks))
        ∙ ap (λ seen. seen_after seen (names_on Right rule.nodes)) (counted_seen no_count left ∙ ap (seen_after []) (side_names Left (left_marks rule marks)) ∙ left_seen)
        ∙ both_seen

    words_same : (front behind : List RuleNode) → front ++ behind ≡ rule.nodes → AreNew (node_names front) (node_names behind) → AllByRecursion (IsGoodNode schema.dim) behind → map (node_in (form_at schema marks rule) (assigned rule.nodes)) (node_names behind) ≡ behind
    words_same front [] split new good = refl
    words_same front (node ∷ behind) split new good =
        let last : is_among (node_names behind) node.name ≡ false = rest_differ (node_names front) (node_names behind) node.name new in
        let word_of : (side : Side) (marks : List Mark) → word_in (items_at schema rule marks (lines_of rule side)) node.name ≡ word_on side node = λ side marks.
        subst (λ nodes. word_in (items_from schema rule side (hook_on rule side) rule.nodes (links_on rule side) marks 0 nodes) node.name ≡ word_on side node) split
        (word_there schema rule side (hook_on rule side) rule.nodes (links_on rule side) front node behind 0 marks new.0 last) in
        let assigned_of : assigned rule.nodes node.name ≡ node.sets = subst (λ nodes. assigned nodes node.name ≡ node.sets) split (assigned_there front node behind new.0) in
        let rest = words_same (front ++ node ∷ []) behind (append_assoc front (node ∷ []) behind ∙ split) (subst (λ names. AreNew names (node_names behind)) (sym (map-append (λ (m : RuleNode). m.name) front (node ∷ []))) new.1) good.1 in
        rw (word_of Left (left_marks rule marks), word_of Right (right_marks schema rule marks), assigned_of, rest) refl

    pub nodes_again : map (node_in (form_at schema marks rule) (assigned rule.nodes)) (nodes_of (form_at schema marks rule)) ≡ rule.nodes
    nodes_again = ap (map (node_in (form_at schema marks rule) (assigned rule.nodes))) nodes_same ∙ words_same [] rule.nodes refl ok.differ ok.nodes

    pub rule_same : rule_in (assigned rule.nodes) rule.pre (form_at schema marks rule) ≡ rule
    rule_same =
        let left : links_in (nodes_of (form_at schema marks rule)) (form_at schema marks rule).left ≡ rule.left_links = ap (λ names. links_in names (form_at schema marks rule).left) nodes_same ∙ links_same Left (left_marks rule marks) in
        let right : links_in (nodes_of (form_at schema marks rule)) (form_at schema marks rule).right ≡ rule.right_links = ap (λ names. links_in names (form_at schema marks rule).right) nodes_same ∙ links_same Right (right_marks schema rule marks) in
        let hooks : hooks_in (nodes_of (form_at schema marks rule)) (form_at schema marks rule).left ≡ rule.hooks = ap (λ names. hooks_in names (form_at schema marks rule).left) nodes_same ∙ hooks_same (left_marks rule marks) in
        rule_from rule _ _ _ _ _ _ (params_same rule.params (behind (behind marks))) nodes_again left right hooks refl
