-- The rules of a book lead through the states to the end, and each state can be gone on from.
use Rattle.std.proofs.Common.{◌≡◌, ℕ, ◌+◌, ◌≤◌, ◌==◌, Bool, true, false, ◌||◌, List, [], ◌∷◌, ◌++◌, map, length, Option, Some, None, refl, sym, ap, subst, ◌∙◌, codes, arith}
use Rattle.std.proofs.lemmas.Option.{none-some}
use Rattle.std.proofs.lemmas.Bool.{false≢true, eqb-true}
use Rattle.std.proofs.lemmas.Slice.Eq.{bytes_eq-Decides}
use Rattle.std.specs.List.{AllByRecursion}
use Rattle.std.specs.Str.{bytes_eq}
use Rattle.gm_model.specs.declared.rule.Side.{Side}
use Rattle.gm_model.specs.declared.rule.Side.TheVariants.{Left, Right}
use Rattle.gm_model.specs.declared.value.Kind.{Kind}
use Rattle.gm_model.specs.declared.value.Kind.TheVariants as kinds
use Rattle.gm_model.specs.declared.word.Letter.{Letter}
use Rattle.gm_model.specs.declared.word.Letter.TheVariants as letters
use Rattle.gm_model.specs.Names.{reserved, Mention, is_among, IsFree}
use Rattle.gm_model.specs.Symbols.{Symbol, Word, Numeral, Sign, Gone, Stray, End}
use Rattle.gm_model.specs.Reading.{Part, word, sign, the_end}
use Rattle.gm_forms.specs.BookText.{Item, NodeItem, LinkItem, ParamForm, ExprToken, SetForm, RuleForm, Count, no_count, count_after, counted, count_across, with_name, hook_count, Role, Fixed, RuleWord, NameAt, InExpr, NodeSign, limit_of, stands_before, named, spell_letters, part_of, in_expr, spell_value, spell_sets, spell_hook, spell_item, spell_items, spell_pre, spell_param, spell_more_params, spell_params, spell_rules, IsTokenPlaced, IsExpr, IsSet, IsPre, IsItem, IsParam, IsRule}
use Rattle.std.specs.Option.{option_map}
use Rattle.std.specs.Prelude.{IsTrue}
use Rattle.gm_parse.specs.inner.Reading as exprs
use Rattle.gm_parse.specs.inner.Reading.{first_spot, spot_move, spot_role, is_whole_spot}
use Rattle.gm_parse.specs.Spelling as exprs_spelling
use Rattle.gm_parse.specs.Spelling.{Counted}
use Rattle.gm_parse.proofs.Counted.{LedSpot, spot_behind, form_leads, form_whole, spot_goes_on}
use Rattle.gm_forms.proofs.Apart.{apart, expr_moved}
use Rattle.gm_text.specs.inner.Machine.{Leads}
use Rattle.gm_text.specs.SchemaText.{kind_word}
use Rattle.gm_forms.specs.declared.state.Heading.{Heading}
use Rattle.gm_forms.specs.inner.Reading.{Spot, State, AtRules, AtName, AtLeft, AtParam, AtColon, AtKind, AtComma, AtBody, AtItem, AtSign, AtLetter, AtBehind, AtSet, AtEqual, AtExpr, AtRuleEnd, AtLabel, AtDash, AtTo, AtEnd, Slot, SetSlot, PreSlot, behind_slot, dim_of, on_right, left_spot, with_node, with_link, with_hook, closing, takes_hook, is_hook_on, is_hook, is_pre_on, is_with_on, item_role, plain_role, role_at, param_kind, item_move, plain_move, move}

abbrev pub Led : State → List (Part Role) → Type 0
Led state parts = Leads limit_of stands_before role_at move state parts AtEnd

abbrev pub spot_at : Heading → ℕ → Side → Count → Bool → Spot
spot_at h k side count hooked = record { heading = h; rules = k; side = side; count = count; hooked = hooked }

-- ---- hooks

-- whether there is a hook, with the item and with the items
abbrev pub hooked_by : Bool → Item → Bool
hooked_by hooked (NodeItem node word hook sets) = hook || hooked
hooked_by hooked (LinkItem from label to) = hooked

abbrev pub hooked_in : Bool → List Item → Bool
hooked_in hooked [] = hooked
hooked_in hooked (item ∷ items) = hooked_in (hooked_by hooked item) items

-- where the item is a hook, the version takes it
abbrev pub IsTaken : ℕ → Bool → Item → Type 0
IsTaken version hooked (NodeItem node word hook sets) = hook ≡ true → takes_hook version hooked ≡ true
IsTaken version hooked (LinkItem from label to) = Unit {0}

abbrev pub AreTaken : ℕ → Bool → List Item → Type 0
AreTaken version hooked [] = Unit {0}
AreTaken version hooked (item ∷ items) = IsTaken version hooked item × AreTaken version (hooked_by hooked item) items

abbrev so_far : Bool → ℕ
so_far true = 1
so_far false = 0

takes_one : (version : ℕ) (hooked : Bool) (more : ℕ) → (version ≡ 1 → so_far hooked + (more + 1) ≤ 1) → takes_hook version hooked ≡ true
takes_one version false more few = refl
takes_one version true more few = go (version == 1) refl
  where
    go : (b : Bool) → (version == 1) ≡ b → takes_hook version true ≡ true
    go false is = rw is refl
    go true is = let two : 1 + (more + 1) ≤ 1 = few (eqb-true version 1 is) in absurd (omega (arith, two))

few_taken : (version : ℕ) (hooked : Bool) (items : List Item) → (version ≡ 1 → so_far hooked + hook_count items ≤ 1) → AreTaken version hooked items
few_taken version hooked [] few = tt
few_taken version hooked (NodeItem node word true sets ∷ items) few =
    (λ h. takes_one version hooked (hook_count items) few, few_taken version true items (λ one. let less = few one in omega (arith, less)))
few_taken version hooked (NodeItem node word false sets ∷ items) few = (λ h. absurd (false≢true h), few_taken version hooked items few)
few_taken version hooked (LinkItem from label to ∷ items) few = (tt, few_taken version hooked items few)

taken_few : (version : ℕ) (hooked : Bool) (items : List Item) → AreTaken version hooked items → version ≡ 1 → so_far hooked + hook_count items ≤ 1
taken_few version true [] taken one = omega arith
taken_few version false [] taken one = omega arith
taken_few version true (NodeItem node word true sets ∷ items) taken one = absurd (false≢true (rw one at taken.0 refl))
taken_few version false (NodeItem node word true sets ∷ items) taken one = let rest = taken_few version true items taken.1 one in omega (arith, rest)
taken_few version hooked (NodeItem node word false sets ∷ items) taken one = taken_few version hooked items taken.1 one
taken_few version hooked (LinkItem from label to ∷ items) taken one = taken_few version hooked items taken.1 one

-- a rule's left items are those that the version takes
pub left_taken : (version : ℕ) (items : List Item) → (version ≡ 1 → hook_count items ≤ 1) → AreTaken version false items
left_taken version items few = few_taken version false items (λ one. let less = few one in omega (arith, less))

pub taken_left : (version : ℕ) (items : List Item) → AreTaken version false items → version ≡ 1 → hook_count items ≤ 1
taken_left version items taken one = let less = taken_few version false items taken one in omega (arith, less)

-- no right item is a hook
pub right_taken : (n version : ℕ) (hooked : Bool) (items : List Item) → AllByRecursion (IsItem n Right) items → AreTaken version hooked items
right_taken n version hooked [] good = tt
right_taken n version hooked (NodeItem node word hook sets ∷ items) good = (λ h. absurd (false≢true (sym good.0.1 ∙ h)), right_taken n version (hook || hooked) items good.1)
right_taken n version hooked (LinkItem from label to ∷ items) good = (tt, right_taken n version hooked items good.1)

-- ---- names

pub free_is_not : (name other : List ℕ) → is_among reserved other ≡ true → is_among reserved name ≡ false → bytes_eq name other ≡ false
free_is_not name other among free = go (bytes_eq name other) refl
  where
    go : (b : Bool) → bytes_eq name other ≡ b → b ≡ false
    go false e = refl
    go true e =
        let same : name ≡ other = (bytes_eq-Decides name other).0 e in
        let both : true ≡ false = sym among ∙ ap (is_among reserved) (sym same) ∙ free in
        both

pub free_closes : (side : Side) (name : List ℕ) → is_among reserved name ≡ false → bytes_eq name (closing side) ≡ false
free_closes Left name free = free_is_not name (codes "right") refl free
free_closes Right name free = free_is_not name (codes "rule") refl free

pub free_pre : (side : Side) (name : List ℕ) → is_among reserved name ≡ false → is_pre_on side name ≡ false
free_pre Left name free = refl
free_pre Right name free = free_is_not name (codes "pre") refl free

pub free_with : (side : Side) (name : List ℕ) → is_among reserved name ≡ false → is_with_on side name ≡ false
free_with Left name free = refl
free_with Right name free = free_is_not name (codes "with") refl free

-- where an item can begin, no name is a hook
pub free_hook : (side : Side) (takes : Bool) (name : List ℕ) → is_among reserved name ≡ false → is_hook_on side takes name ≡ false
free_hook Left takes name free = rw (free_is_not name (codes "hook") refl free) refl
free_hook Right takes name free = refl

led_name : (spot : Spot) (name : Mention) (parts : List (Part Role)) → IsFree name → Led (AtSign spot name.name) parts → Led (AtItem spot) (named name ∷ parts)
led_name spot name parts free led =
    (name.place, AtSign spot name.name, rw (free_closes spot.side name.name free, free_pre spot.side name.name free) refl, rw (free_closes spot.side name.name free, free_pre spot.side name.name free, free) refl, led)

-- ---- behind an expression

-- the part leads on from behind an expression
record LedPlain (slot : Slot) (part : Part Role) (back : List (Part Role)) : Type 0 where
  place : ℕ
  next : State
  role : part.role ≡ plain_role (behind_slot slot) part.symbol place
  moves : plain_move (behind_slot slot) part.symbol ≡ Some next
  led : Led next back

plainly : (slot : Slot) (part : Part Role) (back : List (Part Role)) → Led (behind_slot slot) (part ∷ back) → LedPlain slot part back
plainly (SetSlot spot) part back (place, next, role, moves, led) = record { place = place; next = next; role = role; moves = moves; led = led }
plainly (PreSlot h k) part back (place, next, role, moves, led) = record { place = place; next = next; role = role; moves = moves; led = led }

never_ends : (slot : Slot) → Led (behind_slot slot) [] → ⊥
never_ends (SetSlot spot) led = let e : AtBehind (on_right spot) ≡ AtEnd = led in absurd cc
never_ends (PreSlot h k) led = let e : AtRuleEnd h k ≡ AtEnd = led in absurd cc

-- ---- items

led_letters : (spot : Spot) (k : ℕ) (letters : List Letter) (rest : List (Part Role)) → ((j : ℕ) → Led (AtLetter spot j) rest) → Led (AtLetter spot k) (spell_letters spot.heading.dim k letters rest)
led_letters spot k [] rest led = led k
led_letters spot k (letters.At i ∷ word) rest led = (0, AtLetter spot (k + 1), refl, refl, led_letters spot (k + 1) word rest led)
led_letters spot k (letters.Gone ∷ word) rest led = (0, AtLetter spot (k + 1), refl, refl, led_letters spot (k + 1) word rest led)

-- the word `hook` can't begin an item
item_is_no_hook : (spot : Spot) (w : List ℕ) (next : State) → item_move spot w ≡ Some next → is_hook spot w ≡ false
item_is_no_hook spot w next moves = go spot.side refl
  where
    hooked : spot.side ≡ Left → (b : Bool) → bytes_eq w (codes "hook") ≡ b → b ≡ false
    hooked left false e = refl
    hooked left true e =
        let same : w ≡ codes "hook" = (bytes_eq-Decides w (codes "hook")).0 e in
        let none : item_move spot w ≡ None = rw (same, left) refl in
        absurd (none-some next (sym none ∙ moves))

    go : (side : Side) → spot.side ≡ side → is_hook spot w ≡ false
    go Left e = rw (e, hooked e (bytes_eq w (codes "hook")) refl) refl
    go Right e = rw e refl

-- nor can `with`
item_is_no_with : (spot : Spot) (w : List ℕ) (next : State) → item_move spot w ≡ Some next → is_with_on spot.side w ≡ false
item_is_no_with spot w next moves = go spot.side refl
  where
    set : spot.side ≡ Right → (b : Bool) → bytes_eq w (codes "with") ≡ b → b ≡ false
    set right false e = refl
    set right true e =
        let same : w ≡ codes "with" = (bytes_eq-Decides w (codes "with")).0 e in
        let none : item_move spot w ≡ None = rw (same, right) refl in
        absurd (none-some next (sym none ∙ moves))

    go : (side : Side) → spot.side ≡ side → is_with_on spot.side w ≡ false
    go Left e = rw e refl
    go Right e = rw e (set e (bytes_eq w (codes "with")) refl)

pub led_behind : (spot : Spot) (parts : List (Part Role)) → Led (AtItem spot) parts → Led (AtBehind spot) parts
led_behind spot [] led = let other : AtItem spot ≡ AtEnd = led in absurd cc
led_behind spot (part ∷ parts) (place, next, is, moves, led) = go part.symbol refl
  where
    go : (symbol : Symbol) → part.symbol ≡ symbol → Led (AtBehind spot) (part ∷ parts)
    go (Word w) e =
        let moved : item_move spot w ≡ Some next = rw e at moves in
        let other : is_hook spot w ≡ false = item_is_no_hook spot w next moved in
        let plain : is_with_on spot.side w ≡ false = item_is_no_with spot w next moved in
        let role : part.role ≡ item_role spot (Word w) place = rw e at is in
        (place, next, rw (e, other, plain) role, rw (e, other, plain) moved, led)
    go (Numeral n) e = absurd (none-some next (rw e at moves))
    go (Sign s) e = absurd (none-some next (rw e at moves))
    go Gone e = absurd (none-some next (rw e at moves))
    go Stray e = absurd (none-some next (rw e at moves))
    go End e = (place, next, rw e (let role : part.role ≡ Fixed = rw e at is in role), rw e (rw e at moves), led)

led_hook : (spot : Spot) (hook : Bool) (parts : List (Part Role)) → (hook ≡ true → spot.side ≡ Left) → (hook ≡ true → takes_hook spot.heading.version spot.hooked ≡ true) → Led (AtItem (record spot { hooked = hook || spot.hooked })) parts
    → Led (AtBehind spot) (spell_hook hook parts)
led_hook spot false parts left takes led = led_behind spot parts led
led_hook spot true parts left takes led = (0, AtItem (with_hook spot), rw (left refl, takes refl) refl, rw (left refl, takes refl) refl, led)

pub hook_side : (n : ℕ) (side : Side) (node : Mention) (word : List Letter) (hook : Bool) (sets : List SetForm) → IsItem n side (NodeItem node word hook sets) → IsFree node × (hook ≡ true → side ≡ Left)
hook_side n Left node word hook sets good = (good.0, λ h. refl)
hook_side n Right node word hook sets good = (good.0, λ h. absurd (false≢true (sym good.1 ∙ h)))

pub link_free : (n : ℕ) (side : Side) (from to : Mention) (label : ℕ) → IsItem n side (LinkItem from label to) → IsFree from × IsFree to
link_free n Left from to label good = good
link_free n Right from to label good = good

-- ---- expressions

-- the tokens lead from the spot to a whole expression, and what stands behind it leads on
module _ (slot : Slot) where
  led_tokens : (tokens : List ExprToken) (spot last : exprs.Spot) (part : Part Role) (back : List (Part Role)) → LedSpot (dim_of slot) spot (map part_of tokens) last → AllByRecursion IsTokenPlaced tokens → IsTrue (is_whole_spot last)
      → LedPlain slot part back → Led (AtExpr slot spot) (map in_expr tokens ++ part ∷ back)
  led_tokens [] spot last part back e placed whole behind =
      let whole_here : IsTrue (is_whole_spot spot) = subst (λ (s : exprs.Spot). IsTrue (is_whole_spot s)) (sym e) whole in
      let none = apart spot whole_here slot part.symbol behind.next behind.moves in
      (behind.place, behind.next, rw none behind.role, rw (none, whole_here) behind.moves, behind.led)
  led_tokens (token ∷ tokens) spot last part back (place, next, role, moves, led) (placed, others) whole behind =
      let here : exprs_spelling.IsPlacedAt token.place (spot_role (dim_of slot) spot token.symbol place).role = subst (λ (c : Counted). exprs_spelling.IsPlacedAt token.place c.role) role placed in
      let same : token.role ≡ spot_role (dim_of slot) spot token.symbol token.place = role ∙ expr_moved (dim_of slot) spot token.symbol place token.place here in
      (token.place, AtExpr slot next, rw moves (ap (InExpr token.place) same), rw moves refl, led_tokens tokens next last part back led others whole behind)

  pub led_value : (tokens : List ExprToken) (rest : List (Part Role)) → IsExpr (dim_of slot) tokens → Led (behind_slot slot) rest → Led (AtExpr slot first_spot) (spell_value tokens rest)
  led_value tokens [] expr led = absurd (never_ends slot led)
  led_value tokens (part ∷ back) (form, value) led =
      let n = dim_of slot in
      let leads : LedSpot n first_spot (map part_of tokens) (spot_behind n form) = subst (λ (ps : List (Part Counted)). LedSpot n first_spot ps (spot_behind n form)) (sym value.spelled) (form_leads n form value.good) in
      led_tokens tokens first_spot (spot_behind n form) part back leads value.placed (form_whole n form) (plainly slot part back led)

led_sets : (spot : Spot) (sets : List SetForm) (rest : List (Part Role)) → spot.side ≡ Right → AllByRecursion (IsSet spot.heading.dim) sets → Led (AtBehind spot) rest → Led (AtBehind spot) (spell_sets sets rest)
led_sets spot [] rest right good led = led
led_sets spot (set ∷ sets) rest right good led =
    let behind : Led (AtBehind spot) (spell_sets sets rest) = led_sets spot sets rest right good.1 led in
    let on : on_right spot ≡ spot = rw (sym right) refl in
    let value = led_value (SetSlot spot) set.value (spell_sets sets rest) good.0.1 (subst (λ (at : Spot). Led (AtBehind at) (spell_sets sets rest)) (sym on) behind) in
    (0, AtSet spot, rw right refl, rw right refl, (set.embed.place, AtEqual spot, refl, rw good.0.0 refl, (0, AtExpr (SetSlot spot) first_spot, refl, refl, value)))

-- a node's assignments stand on the right alone
led_behind_word : (spot : Spot) (node : Mention) (word : List Letter) (hook : Bool) (sets : List SetForm) (rest : List (Part Role)) (side : Side) → spot.side ≡ side → IsItem spot.heading.dim side (NodeItem node word hook sets)
    → (hook ≡ true → takes_hook spot.heading.version spot.hooked ≡ true) → Led (AtItem (record spot { hooked = hook || spot.hooked })) rest → Led (AtBehind spot) (spell_hook hook (spell_sets sets rest))
led_behind_word spot node word hook sets rest Left side good taken led =
    subst (λ (ss : List SetForm). Led (AtBehind spot) (spell_hook hook (spell_sets ss rest))) (sym good.1) (led_hook spot hook rest (λ h. side) taken led)
led_behind_word spot node word hook sets rest Right side good taken led =
    let at : Led (AtItem spot) rest = subst (λ (b : Bool). Led (AtItem (record spot { hooked = b || spot.hooked })) rest) good.1 led in
    subst (λ (b : Bool). Led (AtBehind spot) (spell_hook b (spell_sets sets rest))) (sym good.1) (led_sets spot sets rest side good.2 (led_behind spot rest at))

led_item : (h : Heading) (k : ℕ) (side : Side) (count : Count) (hooked : Bool) (item : Item) (rest : List (Part Role)) → IsItem h.dim side item → IsTaken h.version hooked item → Led (AtItem (spot_at h k side (count_after count item) (hooked_by hooked item))) rest
    → Led (AtItem (spot_at h k side count hooked)) (spell_item h.dim count item rest)
led_item h k side count hooked (NodeItem node letters hook sets) rest good taken led =
    let spot = spot_at h k side count hooked in
    let node_spot = with_node spot node.name in
    let is = hook_side h.dim side node letters hook sets good in
    let behind = spell_hook hook (spell_sets sets rest) in
    led_name spot node (sign (NodeSign (length (with_name count.nodes node.name))) (codes "<") ∷ spell_letters h.dim 0 letters (sign Fixed (codes ">") ∷ behind)) is.0
    (0, AtLetter node_spot 0, refl, refl, led_letters node_spot 0 letters (sign Fixed (codes ">") ∷ behind) (λ j. (0, AtBehind node_spot, refl, refl, led_behind_word node_spot node letters hook sets rest side refl good taken led)))
led_item h k side count hooked (LinkItem from label to) rest good taken led =
    let spot = spot_at h k side count hooked in
    let link_spot = with_link spot in
    let is = link_free h.dim side from to label good in (
      from.place,
      AtSign spot from.name,
      rw (free_closes side from.name is.0, free_pre side from.name is.0) refl,
      rw (free_closes side from.name is.0, free_pre side from.name is.0, is.0) refl,
      (0, AtLabel link_spot, refl, refl, (0, AtDash link_spot, refl, refl, (0, AtTo link_spot, refl, refl, (to.place, AtItem link_spot, refl, rw is.1 refl, led)))),
    )

led_items : (h : Heading) (k : ℕ) (side : Side) (count : Count) (hooked : Bool) (items : List Item) (rest : List (Part Role)) → AllByRecursion (IsItem h.dim side) items → AreTaken h.version hooked items
    → Led (AtItem (spot_at h k side (counted count items) (hooked_in hooked items))) rest → Led (AtItem (spot_at h k side count hooked)) (spell_items h.dim count items rest)
led_items h k side count hooked [] rest good taken led = led
led_items h k side count hooked (item ∷ items) rest good taken led =
    led_item h k side count hooked item (spell_items h.dim (count_after count item) items rest) good.0 taken.0 (led_items h k side (count_after count item) (hooked_by hooked item) items rest good.1 taken.1 led)

-- ---- parameters

pub kind_again : (kind : Kind) → param_kind (kind_word kind) ≡ Some kind
kind_again kinds.Int = refl
kind_again kinds.Bool = refl
kind_again kinds.Vec2 = refl
kind_again kinds.Vec3 = refl
kind_again kinds.Rgb = refl

module _ (h : Heading) (k : ℕ) where
  led_param : (count : ℕ) (param : ParamForm) (rest : List (Part Role)) → IsParam param → Led (AtComma h k (count + 1)) rest → Led (AtParam h k count) (spell_param (count + 1) param rest)
  led_param count param rest free led = (
    param.name.place,
    AtColon h k (count + 1),
    refl,
    rw free refl,
    (0, AtKind h k (count + 1), refl, refl, (0, AtComma h k (count + 1), refl, ap (option_map (λ (kind : Kind). AtComma h k (count + 1))) (kind_again param.kind), led)),
  )

  led_more_params : (count : ℕ) (params : List ParamForm) (rest : List (Part Role)) → AllByRecursion IsParam params → Led (AtBody h k) rest → Led (AtComma h k count) (spell_more_params count params rest)
  led_more_params count [] rest good led = (0, AtBody h k, refl, refl, led)
  led_more_params count (param ∷ params) rest good led =
      (0, AtParam h k count, refl, refl, led_param count param (spell_more_params (count + 1) params rest) good.0 (led_more_params (count + 1) params rest good.1 led))

  led_params : (params : List ParamForm) (rest : List (Part Role)) → AllByRecursion IsParam params → Led (AtItem (left_spot h k)) rest → Led (AtLeft h k) (spell_params params (word Fixed (codes "left") ∷ rest))
  led_params [] rest good led = (0, AtItem (left_spot h k), refl, refl, led)
  led_params (param ∷ params) rest good led = (
    0,
    AtParam h k 0,
    refl,
    refl,
    led_param 0 param (spell_more_params 1 params (word Fixed (codes "left") ∷ rest)) good.0
        (led_more_params 1 params (word Fixed (codes "left") ∷ rest) good.1 (0, AtItem (left_spot h k), refl, refl, led)),
  )

-- ---- rules

-- where a rule can begin behind so many, and the book can end
pub record CanEnd (state : State) (h : Heading) (k : ℕ) : Type 0 where
  rule_role : role_at state (Word (codes "rule")) 0 ≡ RuleWord (k + 1)
  rule_move : move state (Word (codes "rule")) ≡ Some (AtName h (k + 1))
  end_role : role_at state End 0 ≡ Fixed
  end_move : move state End ≡ Some AtEnd

pub at_header : (h : Heading) → CanEnd (AtRules h) h 0
at_header h = record { rule_role = refl; rule_move = refl; end_role = refl; end_move = refl }

at_right : (h : Heading) (k : ℕ) (count : Count) (hooked : Bool) → CanEnd (AtItem (spot_at h k Right count hooked)) h k
at_right h k count hooked = record { rule_role = refl; rule_move = refl; end_role = refl; end_move = refl }

at_rule_end : (h : Heading) (k : ℕ) → CanEnd (AtRuleEnd h k) h k
at_rule_end h k = record { rule_role = refl; rule_move = refl; end_role = refl; end_move = refl }

led_pre : (h : Heading) (k : ℕ) (count : Count) (hooked : Bool) (pre : Option (List ExprToken)) (rest : List (Part Role)) → IsPre h.dim pre → Led (AtItem (spot_at h k Right count hooked)) rest → Led (AtRuleEnd h k) rest
    → Led (AtItem (spot_at h k Right count hooked)) (spell_pre pre rest)
led_pre h k count hooked None rest good led end = led
led_pre h k count hooked (Some tokens) rest good led end = (0, AtExpr (PreSlot h k) first_spot, refl, refl, led_value (PreSlot h k) tokens rest good end)

pub led_rules : (state : State) (h : Heading) (k : ℕ) (rules : List RuleForm) → CanEnd state h k → AllByRecursion (IsRule h.version h.dim) rules → Led state (spell_rules h.dim k rules (the_end Fixed ∷ []))
led_rules state h k [] can good = (0, AtEnd, sym can.end_role, can.end_move, refl)
led_rules state h k (rule ∷ rules) can (is, good) =
    let across = count_across (counted no_count rule.left) in
    let behind = counted across rule.right in
    let hooked = hooked_in false rule.left in
    let hooked_behind = hooked_in hooked rule.right in
    let later = spell_rules h.dim (k + 1) rules (the_end Fixed ∷ []) in
    let rest = spell_pre rule.pre later in (
      0,
      AtName h (k + 1),
      sym can.rule_role,
      can.rule_move,
      (
        rule.name.place,
        AtLeft h (k + 1),
        refl,
        rw is.name refl,
        led_params h (k + 1) rule.params (spell_items h.dim no_count rule.left (word Fixed (codes "right") ∷ spell_items h.dim across rule.right rest)) is.params
            (led_items h (k + 1) Left no_count false rule.left (word Fixed (codes "right") ∷ spell_items h.dim across rule.right rest) is.left (left_taken h.version rule.left is.few_hooks) (
              0,
              AtItem (spot_at h (k + 1) Right across hooked),
              refl,
              refl,
              led_items h (k + 1) Right across hooked rule.right rest is.right (right_taken h.dim h.version hooked rule.right is.right)
                  (led_pre h (k + 1) behind hooked_behind rule.pre later is.pre
                  (led_rules (AtItem (spot_at h (k + 1) Right behind hooked_behind)) h (k + 1) rules (at_right h (k + 1) behind hooked_behind) good)
                  (led_rules (AtRuleEnd h (k + 1)) h (k + 1) rules (at_rule_end h (k + 1)) good)),
            )),
      ),
    )

-- ---- going on

-- a rule goes on with nothing on either side
item_goes_on : (h : Heading) (k : ℕ) (side : Side) (count : Count) (hooked : Bool) → (rest : List (Part Role)) × Led (AtItem (spot_at h k side count hooked)) rest
item_goes_on h k Right count hooked = (the_end Fixed ∷ [], (0, AtEnd, refl, refl, refl))
item_goes_on h k Left count hooked =
    (word Fixed (codes "right") ∷ the_end Fixed ∷ [], (0, AtItem (spot_at h k Right (count_across count) hooked), refl, refl, (0, AtEnd, refl, refl, refl)))

abbrev name_part : Part Role
name_part = word (NameAt 0) (codes "a")

to_goes_on : (spot : Spot) → (rest : List (Part Role)) × Led (AtTo spot) rest
to_goes_on spot =
    let rest = item_goes_on spot.heading spot.rules spot.side spot.count spot.hooked in
    (name_part ∷ rest.0, (0, AtItem spot, refl, refl, rest.1))

dash_goes_on : (spot : Spot) → (rest : List (Part Role)) × Led (AtDash spot) rest
dash_goes_on spot =
    let rest = to_goes_on spot in
    (sign Fixed (codes "-") ∷ rest.0, (0, AtTo spot, refl, refl, rest.1))

behind_goes_on : (spot : Spot) → (rest : List (Part Role)) × Led (AtBehind spot) rest
behind_goes_on spot =
    let rest = item_goes_on spot.heading spot.rules spot.side spot.count spot.hooked in
    (rest.0, led_behind spot rest.0 rest.1)

letter_goes_on : (spot : Spot) (k : ℕ) → (rest : List (Part Role)) × Led (AtLetter spot k) rest
letter_goes_on spot k =
    let rest = behind_goes_on spot in
    (sign Fixed (codes ">") ∷ rest.0, (0, AtBehind spot, refl, refl, rest.1))

more : (state next : State) (symbol : Symbol) → move state symbol ≡ Some next → ((rest : List (Part Role)) × Led next rest) → (rest : List (Part Role)) × Led state rest
more state next symbol moves rest = (record { symbol = symbol; role = role_at state symbol 0 } ∷ rest.0, (0, next, refl, moves, rest.1))

rules_go_on : (h : Heading) → (rest : List (Part Role)) × Led (AtRules h) rest
rules_go_on h = more (AtRules h) AtEnd End refl ([], refl)

left_goes_on : (h : Heading) (k : ℕ) → (rest : List (Part Role)) × Led (AtLeft h k) rest
left_goes_on h k = more (AtLeft h k) (AtItem (left_spot h k)) (Word (codes "left")) refl (item_goes_on h k Left no_count false)

body_goes_on : (h : Heading) (k : ℕ) → (rest : List (Part Role)) × Led (AtBody h k) rest
body_goes_on h k = more (AtBody h k) (AtItem (left_spot h k)) (Word (codes "left")) refl (item_goes_on h k Left no_count false)

comma_goes_on : (h : Heading) (k count : ℕ) → (rest : List (Part Role)) × Led (AtComma h k count) rest
comma_goes_on h k count = more (AtComma h k count) (AtBody h k) (Sign (codes ")")) refl (body_goes_on h k)

kind_goes_on : (h : Heading) (k count : ℕ) → (rest : List (Part Role)) × Led (AtKind h k count) rest
kind_goes_on h k count = more (AtKind h k count) (AtComma h k count) (Word (codes "int")) refl (comma_goes_on h k count)

colon_goes_on : (h : Heading) (k count : ℕ) → (rest : List (Part Role)) × Led (AtColon h k count) rest
colon_goes_on h k count = more (AtColon h k count) (AtKind h k count) (Sign (codes ":")) refl (kind_goes_on h k count)

-- an expression is gone on with up to its end, and what stands behind it
rule_end_goes_on : (h : Heading) (k : ℕ) → (rest : List (Part Role)) × Led (AtRuleEnd h k) rest
rule_end_goes_on h k = more (AtRuleEnd h k) AtEnd End refl ([], refl)

slot_goes_on : (slot : Slot) → (rest : List (Part Role)) × Led (behind_slot slot) rest
slot_goes_on (SetSlot spot) = behind_goes_on (on_right spot)
slot_goes_on (PreSlot h k) = rule_end_goes_on h k

module _ (slot : Slot) (part : Part Role) (back : List (Part Role)) (behind : LedPlain slot part back) where
  expr_led : (parts : List (Part Counted)) (spot last : exprs.Spot) → LedSpot (dim_of slot) spot parts last → IsTrue (is_whole_spot last) → (rest : List (Part Role)) × Led (AtExpr slot spot) rest
  expr_led [] spot last e whole =
      let whole_here : IsTrue (is_whole_spot spot) = subst (λ (s : exprs.Spot). IsTrue (is_whole_spot s)) (sym e) whole in
      let none = apart spot whole_here slot part.symbol behind.next behind.moves in
      (part ∷ back, (behind.place, behind.next, rw none behind.role, rw (none, whole_here) behind.moves, behind.led))
  expr_led (first ∷ parts) spot last (place, next, role, moves, led) whole =
      let later = expr_led parts next last led whole in
      (record { symbol = first.symbol; role = InExpr place (spot_role (dim_of slot) spot first.symbol place) } ∷ later.0, (place, AtExpr slot next, rw moves refl, rw moves refl, later.1))

expr_goes_on : (slot : Slot) (spot : exprs.Spot) → (rest : List (Part Role)) × Led (AtExpr slot spot) rest
expr_goes_on slot spot =
    let (parts, last, led, whole) = spot_goes_on (dim_of slot) spot in
    let rest = slot_goes_on slot in
    go parts last led whole rest.0 rest.1
  where
    go : (parts : List (Part Counted)) (last : exprs.Spot) → LedSpot (dim_of slot) spot parts last → IsTrue (is_whole_spot last) → (rest : List (Part Role)) → Led (behind_slot slot) rest → (rest : List (Part Role)) × Led (AtExpr slot spot) rest
    go parts last led whole [] behind = absurd (never_ends slot behind)
    go parts last led whole (part ∷ back) behind = expr_led slot part back (plainly slot part back behind) parts spot last led whole

equal_goes_on : (spot : Spot) → (rest : List (Part Role)) × Led (AtEqual spot) rest
equal_goes_on spot = more (AtEqual spot) (AtExpr (SetSlot spot) first_spot) (Sign (codes "=")) refl (expr_goes_on (SetSlot spot) first_spot)

pub goes_on : (state : State) → (rest : List (Part Role)) × Led state rest
goes_on (AtRules h) = rules_go_on h
goes_on (AtName h k) = more (AtName h k) (AtLeft h k) (Word (codes "a")) refl (left_goes_on h k)
goes_on (AtLeft h k) = left_goes_on h k
goes_on (AtParam h k count) = more (AtParam h k count) (AtColon h k (count + 1)) (Word (codes "a")) refl (colon_goes_on h k (count + 1))
goes_on (AtColon h k count) = colon_goes_on h k count
goes_on (AtKind h k count) = kind_goes_on h k count
goes_on (AtComma h k count) = comma_goes_on h k count
goes_on (AtBody h k) = body_goes_on h k
goes_on (AtItem spot) = item_goes_on spot.heading spot.rules spot.side spot.count spot.hooked
goes_on (AtSign spot name) = more (AtSign spot name) (AtLetter (with_node spot name) 0) (Sign (codes "<")) refl (letter_goes_on (with_node spot name) 0)
goes_on (AtLetter spot k) = letter_goes_on spot k
goes_on (AtBehind spot) = behind_goes_on spot
goes_on (AtSet spot) = more (AtSet spot) (AtEqual spot) (Word (codes "a")) refl (equal_goes_on spot)
goes_on (AtEqual spot) = equal_goes_on spot
goes_on (AtExpr slot spot) = expr_goes_on slot spot
goes_on (AtRuleEnd h k) = rule_end_goes_on h k
goes_on (AtLabel spot) = more (AtLabel spot) (AtDash spot) (Numeral 0) refl (dash_goes_on spot)
goes_on (AtDash spot) = dash_goes_on spot
goes_on (AtTo spot) = to_goes_on spot
goes_on AtEnd = ([], refl)
