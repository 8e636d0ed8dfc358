-- Behind the marks of rules these rules are held.
use Rattle.std.proofs.Common.{◌≡◌, ℕ, ◌+◌, Bool, true, false, ◌||◌, cond, List, [], ◌∷◌, ◌++◌, map, Option, Some, None, refl, sym, ap, subst, ◌∙◌, codes, append_assoc}
use Rattle.std.proofs.lemmas.Bool.{false≢true}
use Rattle.std.proofs.lemmas.List.{append-nil}
use Rattle.std.specs.List.{AllByRecursion}
use Rattle.std.specs.Str.{bytes_eq}
use Rattle.gm_model.specs.declared.rule.Side.{Side}
use Rattle.gm_model.specs.declared.rule.Side.TheVariants.{Left, Right}
use Rattle.gm_model.specs.declared.word.Letter.{Letter}
use Rattle.gm_model.specs.declared.word.Letter.TheVariants as letters
use Rattle.gm_model.specs.Symbols.{Symbol, Word, Mark}
use Rattle.gm_model.specs.Reading as reading
use Rattle.gm_model.specs.Names.{Mention, IsFree, reserved, is_among}
use Rattle.gm_model.specs.Reading.{word, sign, the_end}
use Rattle.gm_forms.specs.BookText.{ExprToken, SetForm, Item, NodeItem, LinkItem, ParamForm, RuleForm, Count, no_count, count_after, counted, count_across, Role, Fixed, NameAt, ParamName, InExpr, named, part_of, in_expr, spell_value, spell_sets, spell_pre, spell_letters, spell_hook, spell_item, spell_items, spell_more_params, spell_params, spell_rules, IsTokenPlaced, IsExpr, IsSet, IsPre, IsItem, IsParam, IsRule}
use Rattle.gm_forms.specs.declared.state.Heading.{Heading}
use Rattle.gm_forms.specs.inner.Reading.{Spot, State, AtRules, AtName, AtLeft, AtComma, AtBody, AtItem, AtSign, AtSet, closed, AtExpr, AtRuleEnd, AtEnd, Slot, SetSlot, PreSlot, behind_slot, dim_of, on_right, left_spot, AtLetter, AtBehind, with_node, with_hook, takes_hook, is_hook_on, is_with_on, plain_move, Part, Nothing, Assigned, Required, Lettered, Held, put_expr, with_token, assign_last, with_param, hook_last, held_behind}
use Rattle.gm_forms.proofs.Leading.{spot_at, hooked_by, hooked_in, IsTaken, AreTaken, left_taken, right_taken, kind_again, free_closes, free_pre, free_with, free_hook, hook_side, link_free}
use Rattle.gm_forms.proofs.Spelling.{Parts, within, behind, declared, put, assign_all, hook_put, finish_put}
use Rattle.gm_forms.proofs.Apart.{apart, expr_moved}
use Rattle.gm_forms.proofs.Values.{holding, with_tokens, assigned_tokens, required_tokens}
use Rattle.gm_parse.specs.inner.Reading as exprs
use Rattle.gm_parse.specs.inner.Reading.{first_spot, spot_move, spot_role, is_whole_spot}
use Rattle.gm_parse.specs.Spelling as spelling
use Rattle.gm_parse.specs.Spelling.{Counted}
use Rattle.gm_parse.proofs.Counted.{LedSpot, spot_behind, form_leads, form_whole}
use Rattle.std.specs.Prelude.{IsTrue}

-- ---- the marks of parts: a name stands where its mention says

abbrev role_place : Role → ℕ
role_place (NameAt place) = place
role_place (ParamName k place) = place
role_place (InExpr place role) = place
role_place _ = 0

abbrev pub marks_for : Parts → List Mark
marks_for parts = map (λ (part : reading.Part Role). let m : Mark = record { symbol = part.symbol; place = role_place part.role } in m) parts

-- what is held at the end behind a state
abbrev Leaves : State → Parts → Held → Held → Type 0
Leaves state parts held last = held_behind state (marks_for parts) held ≡ last

letters_held : (spot : Spot) (k : ℕ) (word front : List Letter) (rest : Parts) (before : List RuleForm) (rule : RuleForm) (name : Mention) (last : Held)
    → ((j : ℕ) → Leaves (AtLetter spot j) rest (within before rule (Lettered name (front ++ word))) last) → Leaves (AtLetter spot k) (spell_letters spot.heading.dim k word rest) (within before rule (Lettered name front)) last
letters_held spot k [] front rest before rule name last ends = ap (λ (w : List Letter). held_behind (AtLetter spot k) (marks_for rest) (within before rule (Lettered name w))) (sym (append-nil front)) ∙ ends k
letters_held spot k (letters.At i ∷ word) front rest before rule name last ends =
    letters_held spot (k + 1) word (front ++ letters.At i ∷ []) rest before rule name last (λ j. ap (λ (w : List Letter). held_behind (AtLetter spot j) (marks_for rest) (within before rule (Lettered name w))) (append_assoc front (letters.At i ∷ []) word) ∙ ends j)
letters_held spot k (letters.Gone ∷ word) front rest before rule name last ends =
    letters_held spot (k + 1) word (front ++ letters.Gone ∷ []) rest before rule name last (λ j. ap (λ (w : List Letter). held_behind (AtLetter spot j) (marks_for rest) (within before rule (Lettered name w))) (append_assoc front (letters.Gone ∷ []) word) ∙ ends j)

-- ---- items

-- ---- expressions

-- what stands there can follow what the slot is of
abbrev CanFollow : Slot → Parts → Type 0
CanFollow slot [] = ⊥
CanFollow slot (part ∷ parts) = (next : State) × (plain_move (behind_slot slot) part.symbol ≡ Some next)

module _ (slot : Slot) where
  flushed : (spot : exprs.Spot) (part : reading.Part Role) (back : Parts) (held : Held) (next : State) → IsTrue (is_whole_spot spot) → plain_move (behind_slot slot) part.symbol ≡ Some next
      → held_behind (AtExpr slot spot) (marks_for (part ∷ back)) held ≡ held_behind (behind_slot slot) (marks_for (part ∷ back)) (put_expr held held.part)
  flushed spot part back held next whole moves = go slot moves (apart spot whole slot part.symbol next moves)
    where
      go : (slot : Slot) → plain_move (behind_slot slot) part.symbol ≡ Some next → spot_move spot part.symbol ≡ None
          → held_behind (AtExpr slot spot) (marks_for (part ∷ back)) held ≡ held_behind (behind_slot slot) (marks_for (part ∷ back)) (put_expr held held.part)
      go (SetSlot at) moves none = rw (none, whole, moves) refl
      go (PreSlot h k) moves none = rw (none, whole, moves) refl

  tokens_held : (tokens : List ExprToken) (spot last : exprs.Spot) (rest : Parts) (held : Held) → LedSpot (dim_of slot) spot (map part_of tokens) last → AllByRecursion IsTokenPlaced tokens → IsTrue (is_whole_spot last) → CanFollow slot rest
      → held_behind (AtExpr slot spot) (marks_for (map in_expr tokens ++ rest)) held ≡ held_behind (behind_slot slot) (marks_for rest) (put_expr (holding (with_tokens tokens held.part) held) (with_tokens tokens held.part))
  tokens_held [] spot last [] held e placed whole follows = absurd follows
  tokens_held [] spot last (part ∷ back) held e placed whole (next, moves) =
      let here : IsTrue (is_whole_spot spot) = subst (λ (s : exprs.Spot). IsTrue (is_whole_spot s)) (sym e) whole in
      flushed spot part back held next here moves
  tokens_held (token ∷ tokens) spot last rest held (place, next, role, moves, led) (placed, others) whole follows =
      let here : spelling.IsPlacedAt token.place (spot_role (dim_of slot) spot token.symbol place).role = subst (λ (c : Counted). spelling.IsPlacedAt token.place c.role) role placed in
      let same : spot_role (dim_of slot) spot token.symbol token.place ≡ token.role = sym (role ∙ expr_moved (dim_of slot) spot token.symbol place token.place here) in
      rw moves
      (ap (λ (r : Counted). held_behind (AtExpr slot next) (marks_for (map in_expr tokens ++ rest)) (holding (with_token (record { symbol = token.symbol; place = token.place; role = r }) held.part) held)) same
      ∙ tokens_held tokens next last rest (holding (with_token token held.part) held) led others whole follows)

  value_held : (tokens : List ExprToken) (rest : Parts) (held : Held) → IsExpr (dim_of slot) tokens → CanFollow slot rest
      → held_behind (AtExpr slot first_spot) (marks_for (spell_value tokens rest)) held ≡ held_behind (behind_slot slot) (marks_for rest) (put_expr (holding (with_tokens tokens held.part) held) (with_tokens tokens held.part))
  value_held tokens rest held (form, value) follows =
      let n = dim_of slot in
      let leads : LedSpot n first_spot (map part_of tokens) (spot_behind n form) = subst (λ (ps : List (reading.Part Counted)). LedSpot n first_spot ps (spot_behind n form)) (sym value.spelled) (form_leads n form value.good) in
      tokens_held tokens first_spot (spot_behind n form) rest held leads value.placed (form_whole n form) follows

-- ---- items

-- behind an item of the side this can stand: no hook and no assignment, and on the right something with which a rule goes on
abbrev IsPlain : Side → Parts → Type 0
IsPlain side [] = ⊥
IsPlain side (part ∷ parts) = ((takes : Bool) (w : List ℕ) → part.symbol ≡ Word w → (is_hook_on side takes w ≡ false) × (is_with_on side w ≡ false)) × ((spot : Spot) → side ≡ Right → spot.side ≡ Right → (next : State) × (plain_move (AtBehind spot) part.symbol ≡ Some next))

behind_same : (spot : Spot) (rest : Parts) (held : Held) → IsPlain spot.side rest → held_behind (AtBehind spot) (marks_for rest) held ≡ held_behind (AtItem spot) (marks_for rest) held
behind_same spot [] held plain = absurd plain
behind_same spot (part ∷ parts) held plain = go part.symbol refl
  where
    go : (symbol : Symbol) → part.symbol ≡ symbol → held_behind (AtBehind spot) (marks_for (part ∷ parts)) held ≡ held_behind (AtItem spot) (marks_for (part ∷ parts)) held
    go (Word w) e = rw (e, (plain.0 (takes_hook spot.heading.version spot.hooked) w e).0, (plain.0 (takes_hook spot.heading.version spot.hooked) w e).1) refl
    go symbol e = rw e refl

plain_way : (set next pre sign : State) (a b c d : Bool) → a ≡ false → b ≡ false → c ≡ false → d ≡ false → cond a (Some set) (cond b (Some next) (cond c (Some pre) (cond d None (Some sign)))) ≡ Some sign
plain_way set next pre sign false false false false e f g h = refl
plain_way set next pre sign true b c d e f g h = absurd (false≢true (sym e))
plain_way set next pre sign false true c d e f g h = absurd (false≢true (sym f))
plain_way set next pre sign false false true d e f g h = absurd (false≢true (sym g))
plain_way set next pre sign false false false true e f g h = absurd (false≢true (sym h))

-- a name is no hook and no assignment, and on the right an item can begin with it
plain_name : (side : Side) (name : Mention) (parts : Parts) → IsFree name → IsPlain side (named name ∷ parts)
plain_name side name parts free = (
  λ takes w e. let same : name.name ≡ w = cc e in rw (← same) (free_hook side takes name.name free, free_with side name.name free),
  λ spot on right. (
    AtSign (on_right spot) name.name,
    rw right (plain_way (AtSet (on_right spot)) (closed (on_right spot) Right) (AtExpr (PreSlot spot.heading spot.rules) first_spot) (AtSign (on_right spot) name.name)
        (bytes_eq name.name (codes "with")) (bytes_eq name.name (codes "rule")) (bytes_eq name.name (codes "pre")) (is_among reserved name.name)
        (free_with Right name.name free) (free_closes Right name.name free) (free_pre Right name.name free) free),
  ),
)

free_item : (n : ℕ) (side : Side) (item : Item) (count : Count) (rest : Parts) → IsItem n side item → IsPlain side (spell_item n count item rest)
free_item n side (NodeItem node letters hook sets) count rest good = plain_name side node [] (hook_side n side node letters hook sets good).0
free_item n side (LinkItem from label to) count rest good = plain_name side from [] (link_free n side from to label good).0

-- behind a right node's word, its assignments
sets_held : (spot : Spot) (sets : List SetForm) (rest : Parts) (before : List RuleForm) (rule : RuleForm) (last : Held) → spot.side ≡ Right → AllByRecursion (IsSet spot.heading.dim) sets → IsPlain Right rest
    → Leaves (AtItem spot) rest (within before (assign_all sets rule) Nothing) last → Leaves (AtBehind spot) (spell_sets sets rest) (within before rule Nothing) last
sets_held spot [] rest before rule last right good plain ends = behind_same spot rest (within before rule Nothing) (subst (λ (s : Side). IsPlain s rest) (sym right) plain) ∙ ends
sets_held spot (set ∷ sets) rest before rule last right good plain ends =
    let later = sets_held spot sets rest before (assign_last set rule) last right good.1 plain ends in
    let on : on_right spot ≡ spot = rw (sym right) refl in
    let follows : CanFollow (SetSlot (on_right spot)) (spell_sets sets rest) = can_follow sets in
    let value = value_held (SetSlot (on_right spot)) set.value (spell_sets sets rest) (within before rule (Assigned set.embed [])) good.0.1 follows in
    let put : held_behind (behind_slot (SetSlot (on_right spot))) (marks_for (spell_sets sets rest)) (put_expr (within before rule (with_tokens set.value (Assigned set.embed []))) (with_tokens set.value (Assigned set.embed []))) ≡ last =
    ap (λ (p : Part). held_behind (behind_slot (SetSlot (on_right spot))) (marks_for (spell_sets sets rest)) (put_expr (within before rule p) p)) (assigned_tokens set.embed set.value [])
    ∙ ap (λ (at : Spot). held_behind (AtBehind at) (marks_for (spell_sets sets rest)) (within before (assign_last set rule) Nothing)) on ∙ later in
    rw (right, good.0.0) (value ∙ put)
  where
    can_follow : (sets : List SetForm) → CanFollow (SetSlot (on_right spot)) (spell_sets sets rest)
    can_follow [] = go rest plain
      where
        go : (rest : Parts) → IsPlain Right rest → CanFollow (SetSlot (on_right spot)) rest
        go [] plain = absurd plain
        go (part ∷ parts) plain = plain.1 (on_right spot) refl refl
    can_follow (next ∷ more) = (AtSet (on_right spot), refl)

node_held : (spot : Spot) (node : Mention) (word : List Letter) (hook : Bool) (sets : List SetForm) (rest : Parts) (before : List RuleForm) (rule : RuleForm) (last : Held) (side : Side) → spot.side ≡ side → IsItem spot.heading.dim side (NodeItem node word hook sets)
    → (hook ≡ true → takes_hook spot.heading.version spot.hooked ≡ true) → IsPlain side rest
    → Leaves (AtItem (record spot { hooked = hook || spot.hooked })) rest (within before (put side (NodeItem node word hook sets) rule) Nothing) last
    → Leaves (AtBehind spot) (spell_hook hook (spell_sets sets rest)) (within before (put side (NodeItem node word false []) rule) Nothing) last
node_held spot node word hook sets rest before rule last Left side good taken plain ends =
    subst (λ (ss : List SetForm). Leaves (AtBehind spot) (spell_hook hook (spell_sets ss rest)) (within before (put Left (NodeItem node word false []) rule) Nothing) last) (sym good.1)
    (hooked hook taken (subst (λ (ss : List SetForm). Leaves (AtItem (record spot { hooked = hook || spot.hooked })) rest (within before (put Left (NodeItem node word hook ss) rule) Nothing) last) good.1 ends))
  where
    hooked : (set : Bool) → (set ≡ true → takes_hook spot.heading.version spot.hooked ≡ true) → Leaves (AtItem (record spot { hooked = set || spot.hooked })) rest (within before (put Left (NodeItem node word set []) rule) Nothing) last
        → Leaves (AtBehind spot) (spell_hook set rest) (within before (put Left (NodeItem node word false []) rule) Nothing) last
    hooked false takes ends = behind_same spot rest (within before (put Left (NodeItem node word false []) rule) Nothing) (subst (λ (s : Side). IsPlain s rest) (sym side) plain) ∙ ends
    hooked true takes ends =
        let put_hook : held_behind (AtBehind spot) (marks_for (spell_hook true rest)) (within before (put Left (NodeItem node word false []) rule) Nothing)
        ≡ held_behind (AtItem (with_hook spot)) (marks_for rest) (within before (hook_last (put Left (NodeItem node word false []) rule)) Nothing) = rw (side, takes refl) refl in
        put_hook ∙ ap (λ (r : RuleForm). held_behind (AtItem (with_hook spot)) (marks_for rest) (within before r Nothing)) (hook_put Left node word true rule (λ h. refl)) ∙ ends
node_held spot node word hook sets rest before rule last Right side good taken plain ends =
    subst (λ (b : Bool). Leaves (AtBehind spot) (spell_hook b (spell_sets sets rest)) (within before (put Right (NodeItem node word false []) rule) Nothing) last) (sym good.1)
    (sets_held spot sets rest before (put Right (NodeItem node word false []) rule) last side good.2 plain
    (ap (λ (r : RuleForm). held_behind (AtItem spot) (marks_for rest) (within before r Nothing)) (finish_put Right node word false sets rule (λ h. absurd (false≢true h)) tt)
    ∙ subst (λ (b : Bool). Leaves (AtItem (record spot { hooked = b || spot.hooked })) rest (within before (put Right (NodeItem node word b sets) rule) Nothing) last) good.1 ends))

item_held : (h : Heading) (k : ℕ) (side : Side) (count : Count) (hook_before : Bool) (item : Item) (rest : Parts) (before : List RuleForm) (rule : RuleForm) (part : Part) (last : Held) → IsItem h.dim side item → IsTaken h.version hook_before item → IsPlain side rest
    → Leaves (AtItem (spot_at h k side (count_after count item) (hooked_by hook_before item))) rest (within before (put side item rule) Nothing) last → Leaves (AtItem (spot_at h k side count hook_before)) (spell_item h.dim count item rest) (within before rule part) last
item_held h k side count hook_before (NodeItem node letters hook sets) rest before rule part last good taken plain ends =
    let is = hook_side h.dim side node letters hook sets good in
    let spot = with_node (spot_at h k side count hook_before) node.name in
    let behind_word = node_held spot node letters hook sets rest before rule last side refl good taken plain ends in
    rw (free_closes side node.name is.0, free_pre side node.name is.0, is.0) (letters_held spot 0 letters [] (sign Fixed (codes ">") ∷ spell_hook hook (spell_sets sets rest)) before rule node last (λ j. behind_word))
item_held h k side count hook_before (LinkItem from label to) rest before rule part last good taken plain ends =
    let is = link_free h.dim side from to label good in
    rw (free_closes side from.name is.0, free_pre side from.name is.0, is.0, is.1) ends

abbrev put_all : Side → List Item → RuleForm → RuleForm
put_all side [] rule = rule
put_all side (item ∷ items) rule = put_all side items (put side item rule)

items_held : (h : Heading) (k : ℕ) (side : Side) (count : Count) (hook_before : Bool) (items : List Item) (rest : Parts) (before : List RuleForm) (rule : RuleForm) (part : Part) (last : Held) → AllByRecursion (IsItem h.dim side) items → AreTaken h.version hook_before items → IsPlain side rest
    → ((p : Part) → Leaves (AtItem (spot_at h k side (counted count items) (hooked_in hook_before items))) rest (within before (put_all side items rule) p) last) → Leaves (AtItem (spot_at h k side count hook_before)) (spell_items h.dim count items rest) (within before rule part) last
items_held h k side count hook_before [] rest before rule part last good taken plain ends = ends part
items_held h k side count hook_before (item ∷ items) rest before rule part last good taken plain ends =
    item_held h k side count hook_before item (spell_items h.dim (count_after count item) items rest) before rule part last good.0 taken.0 (next items good.1)
    (items_held h k side (count_after count item) (hooked_by hook_before item) items rest before (put side item rule) Nothing last good.1 taken.1 plain ends)
  where
    next : (items : List Item) → AllByRecursion (IsItem h.dim side) items → IsPlain side (spell_items h.dim (count_after count item) items rest)
    next [] good = plain
    next (item' ∷ items) good = free_item h.dim side item' (count_after count item) (spell_items h.dim (count_after (count_after count item) item') items rest) good.0

put_left : (items : List Item) (rule : RuleForm) → put_all Left items rule ≡ record { name = rule.name; params = rule.params; left = rule.left ++ items; right = rule.right; pre = rule.pre }
put_left [] rule = ap (λ (left : List Item). let r : RuleForm = record { name = rule.name; params = rule.params; left = left; right = rule.right; pre = rule.pre } in r) (sym (append-nil rule.left))
put_left (item ∷ items) rule = put_left items (put Left item rule) ∙ ap (λ (left : List Item). let r : RuleForm = record { name = rule.name; params = rule.params; left = left; right = rule.right; pre = rule.pre } in r) (append_assoc rule.left (item ∷ []) items)

put_right : (items : List Item) (rule : RuleForm) → put_all Right items rule ≡ record { name = rule.name; params = rule.params; left = rule.left; right = rule.right ++ items; pre = rule.pre }
put_right [] rule = ap (λ (right : List Item). let r : RuleForm = record { name = rule.name; params = rule.params; left = rule.left; right = right; pre = rule.pre } in r) (sym (append-nil rule.right))
put_right (item ∷ items) rule = put_right items (put Right item rule) ∙ ap (λ (right : List Item). let r : RuleForm = record { name = rule.name; params = rule.params; left = rule.left; right = right; pre = rule.pre } in r) (append_assoc rule.right (item ∷ []) items)

-- ---- parameters

abbrev declare_all : List ParamForm → RuleForm → RuleForm
declare_all [] rule = rule
declare_all (param ∷ params) rule = declare_all params (with_param param rule)

declare_is : (params : List ParamForm) (rule : RuleForm) → declare_all params rule ≡ declared params rule
declare_is [] rule = ap (λ (params : List ParamForm). let r : RuleForm = record { name = rule.name; params = params; left = rule.left; right = rule.right; pre = rule.pre } in r) (sym (append-nil rule.params))
declare_is (param ∷ params) rule = declare_is params (with_param param rule)
    ∙ ap (λ (all : List ParamForm). let r : RuleForm = record { name = rule.name; params = all; left = rule.left; right = rule.right; pre = rule.pre } in r) (append_assoc rule.params (param ∷ []) params)

module _ (h : Heading) (k : ℕ) (before : List RuleForm) (last : Held) where
  more_params_held : (count : ℕ) (params : List ParamForm) (rest : Parts) (rule : RuleForm) (part : Part) → AllByRecursion IsParam params
      → ((p : Part) → Leaves (AtBody h k) rest (within before (declare_all params rule) p) last) → Leaves (AtComma h k count) (spell_more_params count params rest) (within before rule part) last
  more_params_held count [] rest rule part good ends = ends part
  more_params_held count (param ∷ params) rest rule part good ends =
      rw (good.0, kind_again param.kind) (more_params_held (count + 1) params rest (with_param param rule) Nothing good.1 ends)

  params_held : (params : List ParamForm) (rest : Parts) (rule : RuleForm) (part : Part) → AllByRecursion IsParam params
      → ((p : Part) → Leaves (AtItem (left_spot h k)) rest (within before (declared params rule) p) last) → Leaves (AtLeft h k) (spell_params params (word Fixed (codes "left") ∷ rest)) (within before rule part) last
  params_held [] rest rule part good ends = ap (λ (r : RuleForm). held_behind (AtItem (left_spot h k)) (marks_for rest) (within before r part)) (declare_is [] rule) ∙ ends part
  params_held (param ∷ params) rest rule part good ends =
      rw (good.0, kind_again param.kind)
      (more_params_held 1 params (word Fixed (codes "left") ∷ rest) (with_param param rule) Nothing good.1
      (λ p. ap (λ (r : RuleForm). held_behind (AtItem (left_spot h k)) (marks_for rest) (within before r p)) (declare_is (param ∷ params) rule) ∙ ends p))

-- ---- rules

-- what can stand behind the right items
plain_rules : (h : Heading) (k : ℕ) (pre : Option (List ExprToken)) (rules : List RuleForm) → IsPlain Right (spell_pre pre (spell_rules h.dim k rules (the_end Fixed ∷ [])))
plain_rules h k (Some tokens) rules = (λ takes w e. (let same : codes "pre" ≡ w = cc e in rw (← same) (refl, refl)), λ spot on right. (AtExpr (PreSlot spot.heading spot.rules) first_spot, rw right refl))
plain_rules h k None [] = (λ takes w e. absurd cc, λ spot on right. (AtEnd, rw right refl))
plain_rules h k None (rule ∷ rules) = (λ takes w e. (let same : codes "rule" ≡ w = cc e in rw (← same) (refl, refl)), λ spot on right. (AtName spot.heading (spot.rules + 1), rw right refl))

pre_held : (h : Heading) (k : ℕ) (count : Count) (hook_before : Bool) (pre : Option (List ExprToken)) (rules : List RuleForm) (before : List RuleForm) (rule : RuleForm) (part : Part) (last : Held) → IsPre h.dim pre → rule.pre ≡ None
    → ((p : Part) → Leaves (AtItem (spot_at h k Right count hook_before)) (spell_rules h.dim k rules (the_end Fixed ∷ [])) (within before (record rule { pre = pre }) p) last)
    → Leaves (AtRuleEnd h k) (spell_rules h.dim k rules (the_end Fixed ∷ [])) (within before (record rule { pre = pre }) Nothing) last
    → Leaves (AtItem (spot_at h k Right count hook_before)) (spell_pre pre (spell_rules h.dim k rules (the_end Fixed ∷ []))) (within before rule part) last
pre_held h k count hook_before None rules before rule part last good none ends later =
    ap (λ (pre : Option (List ExprToken)). held_behind (AtItem (spot_at h k Right count hook_before)) (marks_for (spell_rules h.dim k rules (the_end Fixed ∷ []))) (within before (record rule { pre = pre }) part)) none ∙ ends part
pre_held h k count hook_before (Some tokens) rules before rule part last good none ends later =
    let rest = spell_rules h.dim k rules (the_end Fixed ∷ []) in
    value_held (PreSlot h k) tokens rest (within before rule (Required [])) good (follows rules)
    ∙ ap (λ (p : Part). held_behind (AtRuleEnd h k) (marks_for rest) (put_expr (within before rule p) p)) (required_tokens tokens []) ∙ later
  where
    follows : (rules : List RuleForm) → CanFollow (PreSlot h k) (spell_rules h.dim k rules (the_end Fixed ∷ []))
    follows [] = (AtEnd, refl)
    follows (rule ∷ rules) = (AtName h (k + 1), refl)

rule_held : (h : Heading) (k : ℕ) (before : List RuleForm) (rule : RuleForm) (rules : List RuleForm) → IsRule h.version h.dim rule
    → ((count : Count) (hook_before : Bool) (part : Part) → Leaves (AtItem (spot_at h k Right count hook_before)) (spell_rules h.dim k rules (the_end Fixed ∷ [])) (within before rule part) (behind (before ++ rule ∷ rules)))
    → Leaves (AtRuleEnd h k) (spell_rules h.dim k rules (the_end Fixed ∷ [])) (within before rule Nothing) (behind (before ++ rule ∷ rules))
    → Leaves (AtName h k) (named rule.name ∷ spell_params rule.params (word Fixed (codes "left") ∷ spell_items h.dim no_count rule.left (word Fixed (codes "right") ∷ spell_items h.dim (count_across (counted no_count rule.left)) rule.right (spell_pre rule.pre (spell_rules h.dim k rules (the_end Fixed ∷ [])))))) (behind before) (behind (before ++ rule ∷ rules))
rule_held h k before rule rules is later ended =
    let across = count_across (counted no_count rule.left) in
    let hook_left = hooked_in false rule.left in
    let hook_right = hooked_in hook_left rule.right in
    let rest = spell_pre rule.pre (spell_rules h.dim k rules (the_end Fixed ∷ [])) in
    let unread : RuleForm = record { name = rule.name; params = []; left = []; right = []; pre = None } in
    let empty : RuleForm = record { name = rule.name; params = rule.params; left = []; right = []; pre = None } in
    let lefts : RuleForm = record { name = rule.name; params = rule.params; left = rule.left; right = []; pre = None } in
    let sides : RuleForm = record { name = rule.name; params = rule.params; left = rule.left; right = rule.right; pre = None } in
    let last = behind (before ++ rule ∷ rules) in
    let on_right : (p : Part) → Leaves (AtItem (spot_at h k Right (counted across rule.right) hook_right)) rest (within before (put_all Right rule.right lefts) p) last = λ p.
    ap (λ (r : RuleForm). held_behind (AtItem (spot_at h k Right (counted across rule.right) hook_right)) (marks_for rest) (within before r p)) (put_right rule.right lefts)
    ∙ pre_held h k (counted across rule.right) hook_right rule.pre rules before sides p last is.pre refl (λ q. later (counted across rule.right) hook_right q) ended in
    let right_part : (p : Part) → Leaves (AtItem (spot_at h k Right across hook_left)) (spell_items h.dim across rule.right rest) (within before lefts p) last = λ p.
    items_held h k Right across hook_left rule.right rest before lefts p last is.right (right_taken h.dim h.version hook_left rule.right is.right) (plain_rules h k rule.pre rules) on_right in
    let on_left : (p : Part) → Leaves (AtItem (spot_at h k Left (counted no_count rule.left) hook_left)) (word Fixed (codes "right") ∷ spell_items h.dim across rule.right rest) (within before (put_all Left rule.left empty) p) last = λ p.
    ap (λ (r : RuleForm). held_behind (AtItem (spot_at h k Left (counted no_count rule.left) hook_left)) (marks_for (word Fixed (codes "right") ∷ spell_items h.dim across rule.right rest)) (within before r p)) (put_left rule.left empty) ∙ right_part p in
    let left_part : (p : Part) → Leaves (AtItem (left_spot h k)) (spell_items h.dim no_count rule.left (word Fixed (codes "right") ∷ spell_items h.dim across rule.right rest)) (within before empty p) last = λ p.
    items_held h k Left no_count false rule.left (word Fixed (codes "right") ∷ spell_items h.dim across rule.right rest) before empty p last is.left (left_taken h.version rule.left is.few_hooks)
    (λ takes w e. (let same : codes "right" ≡ w = cc e in rw (← same) (refl, refl)), λ spot on right. absurd cc) on_left in
    rw is.name (params_held h k before last rule.params (spell_items h.dim no_count rule.left (word Fixed (codes "right") ∷ spell_items h.dim across rule.right rest)) unread Nothing is.params left_part)

mutual
  rules_held : (h : Heading) (k : ℕ) (count : Count) (hook_before : Bool) (before : List RuleForm) (rule : RuleForm) (part : Part) (rules : List RuleForm) → AllByRecursion (IsRule h.version h.dim) rules
      → Leaves (AtItem (spot_at h k Right count hook_before)) (spell_rules h.dim k rules (the_end Fixed ∷ [])) (within before rule part) (behind (before ++ rule ∷ rules))
  rules_held h k count hook_before before rule part [] good = refl
  rules_held h k count hook_before before rule part (next ∷ rules) good =
      rule_held h (k + 1) (before ++ rule ∷ []) next rules good.0 (λ c b p. rules_held h (k + 1) c b (before ++ rule ∷ []) next p rules good.1) (rules_ended h (k + 1) (before ++ rule ∷ []) next rules good.1)
      ∙ ap (λ (rs : List RuleForm). behind rs) (append_assoc before (rule ∷ []) (next ∷ rules))

  -- behind a precondition
  rules_ended : (h : Heading) (k : ℕ) (before : List RuleForm) (rule : RuleForm) (rules : List RuleForm) → AllByRecursion (IsRule h.version h.dim) rules
      → Leaves (AtRuleEnd h k) (spell_rules h.dim k rules (the_end Fixed ∷ [])) (within before rule Nothing) (behind (before ++ rule ∷ rules))
  rules_ended h k before rule [] good = refl
  rules_ended h k before rule (next ∷ rules) good =
      rule_held h (k + 1) (before ++ rule ∷ []) next rules good.0 (λ c b p. rules_held h (k + 1) c b (before ++ rule ∷ []) next p rules good.1) (rules_ended h (k + 1) (before ++ rule ∷ []) next rules good.1)
      ∙ ap (λ (rs : List RuleForm). behind rs) (append_assoc before (rule ∷ []) (next ∷ rules))

pub header_held : (h : Heading) (rules : List RuleForm) → AllByRecursion (IsRule h.version h.dim) rules → Leaves (AtRules h) (spell_rules h.dim 0 rules (the_end Fixed ∷ [])) (behind []) (behind rules)
header_held h [] good = refl
header_held h (rule ∷ rules) good = rule_held h 1 [] rule rules good.0 (λ c b p. rules_held h 1 c b [] rule p rules good.1) (rules_ended h 1 [] rule rules good.1)
