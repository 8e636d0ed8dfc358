-- What can still stand behind a state up to the end, and what is held of it then.
use Rattle.std.proofs.Common.{◌≡◌, ℕ, ◌+◌, Bool, true, false, Option, List, [], ◌∷◌, ◌++◌, map, Some, None, refl, sym, ap, subst, ◌∙◌, codes, append_assoc, ◌||◌, if◌then◌else◌}
use Rattle.std.proofs.lemmas.List.{append-nil}
use Rattle.std.proofs.lemmas.Slice.Eq.{bytes_eq-Decides}
use Rattle.std.specs.List.{AllByRecursion}
use Rattle.std.specs.Str.{bytes_eq}
use Rattle.gm_model.specs.declared.rule.Side.{Side}
use Rattle.gm_model.specs.declared.rule.Side.TheVariants.{Left, Right}
use Rattle.gm_model.specs.declared.value.Kind.{Kind}
use Rattle.gm_model.specs.declared.word.Letter.{Letter}
use Rattle.gm_model.specs.Names.{reserved, Mention, is_among, IsFree}
use Rattle.gm_model.specs.Symbols.{Symbol, Mark}
use Rattle.gm_model.specs.Reading as reading
use Rattle.gm_model.specs.Reading.{word, number, sign, the_end}
use Rattle.gm_forms.specs.BookText.{Item, NodeItem, LinkItem, ParamForm, ExprToken, SetForm, RuleForm, Count, count_after, counted, count_across, Role, Fixed, RuleWord, LabelAt, named, part_of, spell_value, spell_sets, spell_pre, spell_letters, spell_hook, spell_item, spell_items, spell_param, spell_more_params, spell_params, spell_rule, spell_rules, IsTokenPlaced, IsExpr, IsSet, IsPre, IsItem, IsParam, IsRule}
use Rattle.gm_text.specs.SchemaText.{kind_word}
use Rattle.std.specs.Prelude.{IsTrue}
use Rattle.gm_parse.specs.inner.Reading as exprs
use Rattle.gm_parse.specs.inner.Reading.{is_whole_spot}
use Rattle.gm_parse.proofs.Counted.{LedSpot}
use Rattle.gm_forms.specs.declared.state.Heading.{Heading}
use Rattle.gm_forms.specs.inner.Reading.{Spot, State, AtRules, AtName, AtLeft, AtParam, AtColon, AtKind, AtComma, AtBody, AtItem, AtSign, AtLetter, AtBehind, AtSet, AtEqual, AtExpr, AtRuleEnd, AtLabel, AtDash, AtTo, AtEnd, SetSlot, PreSlot, on_right, left_spot, takes_hook, role_at, expect, unless_reserved, Part, Nothing, Declared, Named, Lettered, Linked, Labelled, Assigned, Required, assigned, assign_last, require, Held, nothing_held, with_param, with_item, hooked, hook_last, held_behind}
use Rattle.gm_forms.proofs.Leading.{spot_at, hooked_by, IsTaken, AreTaken}

abbrev pub Parts : Type 0
Parts = List (reading.Part Role)

-- ---- what is held within a rule, and behind rules

abbrev pub within : List RuleForm → RuleForm → Part → Held
within before rule part = record { rules = before; current = Some rule; part = part }

abbrev pub behind : List RuleForm → Held
behind rules = record { rules = rules; current = None; part = Nothing }

-- the rule with more items
abbrev pub either : Option (List ExprToken) → Option (List ExprToken) → Option (List ExprToken)
either None other = other
either (Some tokens) other = Some tokens

abbrev pub grown : RuleForm → List Item → List Item → Option (List ExprToken) → RuleForm
grown rule left right pre = record { name = rule.name; params = rule.params; left = rule.left ++ left; right = rule.right ++ right; pre = either pre rule.pre }

-- the rule with more parameters
abbrev pub declared : List ParamForm → RuleForm → RuleForm
declared params rule = record { name = rule.name; params = rule.params ++ params; left = rule.left; right = rule.right; pre = rule.pre }

-- ---- what still stands before the end

abbrev pub spell_right : ℕ → ℕ → Count → List Item → Option (List ExprToken) → List RuleForm → Parts
spell_right n k count right pre rules = spell_items n count right (spell_pre pre (spell_rules n k rules (the_end Fixed ∷ [])))

-- from where an item can begin
abbrev pub spell_from : ℕ → ℕ → Side → Count → List Item → List Item → Option (List ExprToken) → List RuleForm → Parts
spell_from n k Left count left right pre rules = spell_items n count left (word Fixed (codes "right") ∷ spell_right n k (count_across (counted count left)) right pre rules)
spell_from n k Right count left right pre rules = spell_right n k count right pre rules

-- no left item stands behind `right`
abbrev pub IsOn : Side → List Item → Type 0
IsOn Left left = Unit {0}
IsOn Right left = left ≡ []

-- the items and rules that still stand there
pub record Items (version n : ℕ) (hook_before : Bool) (side : Side) : Type 0 where
  pub left : List Item
  pub right : List Item
  pub pre : Option (List ExprToken)
  pub rules : List RuleForm
  pub on : IsOn side left
  pub left_good : AllByRecursion (IsItem n Left) left
  pub taken : AreTaken version hook_before left
  pub right_good : AllByRecursion (IsItem n Right) right
  pub pre_good : IsPre n pre
  pub rules_good : AllByRecursion (IsRule version n) rules

abbrev pub ItemsAt : Spot → Type 0
ItemsAt spot = Items spot.heading.version spot.heading.dim spot.hooked spot.side

abbrev pub spelled : (spot : Spot) → ItemsAt spot → Parts
spelled spot items = spell_from spot.heading.dim spot.rules spot.side spot.count items.left items.right items.pre items.rules

-- the spot behind a node's word, and the word `hook` where it stands
abbrev pub hooked_at : Bool → Spot → Spot
hooked_at hook spot = record spot { hooked = hook || spot.hooked }

-- the spot behind an item
abbrev pub after_item : Spot → Item → Spot
after_item spot item = spot_at spot.heading spot.rules spot.side (count_after spot.count item) (hooked_by spot.hooked item)

abbrev pub all : {version n : ℕ} {hook_before : Bool} (side : Side) → RuleForm → Items version n hook_before side → List RuleForm
all side rule items = grown rule items.left items.right items.pre ∷ items.rules

abbrev pub put : Side → Item → RuleForm → RuleForm
put side item rule = with_item side item rule

abbrev pub assign_all : List SetForm → RuleForm → RuleForm
assign_all [] rule = rule
assign_all (set ∷ sets) rule = assign_all sets (assign_last set rule)

-- the rule once the hook and the assignments of its last node are known
abbrev pub finish : Bool → List SetForm → RuleForm → RuleForm
finish hook sets rule = assign_all sets (if hook then hook_last rule else rule)

-- assignments stand on the right alone
abbrev pub AreOn : Side → List SetForm → Type 0
AreOn Left sets = sets ≡ []
AreOn Right sets = Unit {0}

-- ---- what the parts behind a state are, and what is held behind them

pub record AfterItems (spot : Spot) (marks : List Mark) (parts : Parts) : Type 0 where
  pub items : ItemsAt spot
  pub same : parts ≡ spelled spot items
  pub held : (before : List RuleForm) (rule : RuleForm) (part : Part) → held_behind (AtItem spot) marks (within before rule part) ≡ behind (before ++ all spot.side rule items)

pub record AfterBehind (spot : Spot) (marks : List Mark) (parts : Parts) : Type 0 where
  pub hook : Bool
  pub hook_on : hook ≡ true → spot.side ≡ Left
  pub taken : hook ≡ true → takes_hook spot.heading.version spot.hooked ≡ true
  pub sets : List SetForm
  pub sets_on : AreOn spot.side sets
  pub sets_good : AllByRecursion (IsSet spot.heading.dim) sets
  pub items : ItemsAt (hooked_at hook spot)
  pub same : parts ≡ spell_hook hook (spell_sets sets (spelled (hooked_at hook spot) items))
  pub held : (before : List RuleForm) (rule : RuleForm) (part : Part) → held_behind (AtBehind spot) marks (within before rule part) ≡ behind (before ++ all spot.side (finish hook sets rule) items)

pub record AfterLetter (spot : Spot) (k : ℕ) (marks : List Mark) (parts : Parts) : Type 0 where
  pub letters : List Letter
  pub hook : Bool
  pub hook_on : hook ≡ true → spot.side ≡ Left
  pub taken : hook ≡ true → takes_hook spot.heading.version spot.hooked ≡ true
  pub sets : List SetForm
  pub sets_on : AreOn spot.side sets
  pub sets_good : AllByRecursion (IsSet spot.heading.dim) sets
  pub items : ItemsAt (hooked_at hook spot)
  pub same : parts ≡ spell_letters spot.heading.dim k letters (sign Fixed (codes ">") ∷ spell_hook hook (spell_sets sets (spelled (hooked_at hook spot) items)))
  pub held : (before : List RuleForm) (rule : RuleForm) (name : Mention) (word : List Letter) → held_behind (AtLetter spot k) marks (within before rule (Lettered name word))
      ≡ behind (before ++ all spot.side (put spot.side (NodeItem name (word ++ letters) hook sets) rule) items)

pub record AfterTo (spot : Spot) (marks : List Mark) (parts : Parts) : Type 0 where
  pub to : Mention
  pub free : IsFree to
  pub items : ItemsAt spot
  pub same : parts ≡ named to ∷ spelled spot items
  pub held : (before : List RuleForm) (rule : RuleForm) (from : Mention) (label : ℕ) → held_behind (AtTo spot) marks (within before rule (Labelled from label))
      ≡ behind (before ++ all spot.side (put spot.side (LinkItem from label to) rule) items)

pub record AfterDash (spot : Spot) (marks : List Mark) (parts : Parts) : Type 0 where
  pub to : Mention
  pub free : IsFree to
  pub items : ItemsAt spot
  pub same : parts ≡ sign Fixed (codes "-") ∷ named to ∷ spelled spot items
  pub held : (before : List RuleForm) (rule : RuleForm) (from : Mention) (label : ℕ) → held_behind (AtDash spot) marks (within before rule (Labelled from label))
      ≡ behind (before ++ all spot.side (put spot.side (LinkItem from label to) rule) items)

pub record AfterLabel (spot : Spot) (marks : List Mark) (parts : Parts) : Type 0 where
  pub label : ℕ
  pub to : Mention
  pub free : IsFree to
  pub items : ItemsAt spot
  pub same : parts ≡ number (LabelAt spot.heading.dim) label ∷ sign Fixed (codes "-") ∷ named to ∷ spelled spot items
  pub held : (before : List RuleForm) (rule : RuleForm) (from : Mention) → held_behind (AtLabel spot) marks (within before rule (Linked from))
      ≡ behind (before ++ all spot.side (put spot.side (LinkItem from label to) rule) items)

-- behind an item's first name
pub record AfterName (spot : Spot) (name : List ℕ) (marks : List Mark) (parts : Parts) : Type 0 where
  pub item : Mention → Item
  pub good : (from : Mention) → from.name ≡ name → IsFree from → IsItem spot.heading.dim spot.side (item from)
  pub taken : (from : Mention) → IsTaken spot.heading.version spot.hooked (item from)
  pub items : (from : Mention) → ItemsAt (after_item spot (item from))
  pub same : (from : Mention) → from.name ≡ name → named from ∷ parts ≡ spell_item spot.heading.dim spot.count (item from) (spelled (after_item spot (item from)) (items from))
  pub held : (before : List RuleForm) (rule : RuleForm) (from : Mention) → held_behind (AtSign spot name) marks (within before rule (Named from))
      ≡ behind (before ++ all spot.side (put spot.side (item from) rule) (items from))

pub record AfterRule (h : Heading) (k : ℕ) (marks : List Mark) (parts : Parts) : Type 0 where
  pub rule : RuleForm
  pub rules : List RuleForm
  pub rule_good : IsRule h.version h.dim rule
  pub rules_good : AllByRecursion (IsRule h.version h.dim) rules
  pub same : word (RuleWord k) (codes "rule") ∷ parts ≡ spell_rule h.dim k rule (spell_rules h.dim k rules (the_end Fixed ∷ []))
  pub held : (before : List RuleForm) → held_behind (AtName h k) marks (behind before) ≡ behind (before ++ rule ∷ rules)

pub record AfterHeader (h : Heading) (marks : List Mark) (parts : Parts) : Type 0 where
  pub rules : List RuleForm
  pub rules_good : AllByRecursion (IsRule h.version h.dim) rules
  pub same : parts ≡ spell_rules h.dim 0 rules (the_end Fixed ∷ [])
  pub held : held_behind (AtRules h) marks nothing_held ≡ behind rules

-- in an assignment: what stands behind its name's `with`
pub record AfterSet (spot : Spot) (marks : List Mark) (parts : Parts) : Type 0 where
  pub set : SetForm
  pub good : IsSet spot.heading.dim set
  pub sets : List SetForm
  pub sets_good : AllByRecursion (IsSet spot.heading.dim) sets
  pub items : ItemsAt (on_right spot)
  pub same : parts ≡ named set.embed ∷ sign Fixed (codes "=") ∷ spell_value set.value (spell_sets sets (spelled (on_right spot) items))
  pub held : (before : List RuleForm) (rule : RuleForm) (part : Part) → held_behind (AtSet spot) marks (within before rule part) ≡ behind (before ++ all Right (assign_all (set ∷ sets) rule) items)

pub record AfterEqual (spot : Spot) (marks : List Mark) (parts : Parts) : Type 0 where
  pub value : List ExprToken
  pub good : IsExpr spot.heading.dim value
  pub sets : List SetForm
  pub sets_good : AllByRecursion (IsSet spot.heading.dim) sets
  pub items : ItemsAt (on_right spot)
  pub same : parts ≡ sign Fixed (codes "=") ∷ spell_value value (spell_sets sets (spelled (on_right spot) items))
  pub held : (before : List RuleForm) (rule : RuleForm) (embed : Mention) → held_behind (AtEqual spot) marks (within before rule (Assigned embed []))
      ≡ behind (before ++ all Right (assign_all (record { embed = embed; value = value } ∷ sets) rule) items)

-- the rest of an expression, from a spot on
pub record Rest (n : ℕ) (spot : exprs.Spot) : Type 0 where
  pub tokens : List ExprToken
  pub last : exprs.Spot
  pub leads : LedSpot n spot (map part_of tokens) last
  pub whole : IsTrue (is_whole_spot last)
  pub placed : AllByRecursion IsTokenPlaced tokens

-- in an assignment's expression
pub record AfterValue (spot : Spot) (at : exprs.Spot) (marks : List Mark) (parts : Parts) : Type 0 where
  pub value : Rest spot.heading.dim at
  pub sets : List SetForm
  pub sets_good : AllByRecursion (IsSet spot.heading.dim) sets
  pub items : ItemsAt (on_right spot)
  pub same : parts ≡ spell_value value.tokens (spell_sets sets (spelled (on_right spot) items))
  pub held : (before : List RuleForm) (rule : RuleForm) (embed : Mention) (front : List ExprToken) → held_behind (AtExpr (SetSlot spot) at) marks (within before rule (Assigned embed front))
      ≡ behind (before ++ all Right (assign_all (record { embed = embed; value = front ++ value.tokens } ∷ sets) rule) items)

-- in a precondition's
pub record AfterPre (h : Heading) (k : ℕ) (at : exprs.Spot) (marks : List Mark) (parts : Parts) : Type 0 where
  pub value : Rest h.dim at
  pub rules : List RuleForm
  pub rules_good : AllByRecursion (IsRule h.version h.dim) rules
  pub same : parts ≡ spell_value value.tokens (spell_rules h.dim k rules (the_end Fixed ∷ []))
  pub held : (before : List RuleForm) (rule : RuleForm) (front : List ExprToken) → held_behind (AtExpr (PreSlot h k) at) marks (within before rule (Required front)) ≡ behind (before ++ require (front ++ value.tokens) rule ∷ rules)

pub record AfterRuleEnd (h : Heading) (k : ℕ) (marks : List Mark) (parts : Parts) : Type 0 where
  pub rules : List RuleForm
  pub rules_good : AllByRecursion (IsRule h.version h.dim) rules
  pub same : parts ≡ spell_rules h.dim k rules (the_end Fixed ∷ [])
  pub held : (before : List RuleForm) (rule : RuleForm) (part : Part) → held_behind (AtRuleEnd h k) marks (within before rule part) ≡ behind (before ++ rule ∷ rules)

-- `left`, and then the items
abbrev pub body : (h : Heading) (k : ℕ) → ItemsAt (left_spot h k) → Parts
body h k items = word Fixed (codes "left") ∷ spelled (left_spot h k) items

pub record AfterBody (h : Heading) (k : ℕ) (marks : List Mark) (parts : Parts) : Type 0 where
  pub items : ItemsAt (left_spot h k)
  pub same : parts ≡ body h k items
  pub held : (before : List RuleForm) (rule : RuleForm) (part : Part) → held_behind (AtBody h k) marks (within before rule part) ≡ behind (before ++ all Left rule items)

-- parameters as they are spelled there, and then the items
pub record AfterParams (h : Heading) (k : ℕ) (state : State) (spell : List ParamForm → Parts → Parts) (marks : List Mark) (parts : Parts) : Type 0 where
  pub params : List ParamForm
  pub good : AllByRecursion IsParam params
  pub items : ItemsAt (left_spot h k)
  pub same : parts ≡ spell params (body h k items)
  pub held : (before : List RuleForm) (rule : RuleForm) (part : Part) → held_behind state marks (within before rule part) ≡ behind (before ++ all Left (declared params rule) items)

pub record AfterParam (h : Heading) (k count : ℕ) (marks : List Mark) (parts : Parts) : Type 0 where
  pub param : ParamForm
  pub free : IsParam param
  pub params : List ParamForm
  pub good : AllByRecursion IsParam params
  pub items : ItemsAt (left_spot h k)
  pub same : parts ≡ spell_param (count + 1) param (spell_more_params (count + 1) params (body h k items))
  pub held : (before : List RuleForm) (rule : RuleForm) (part : Part) → held_behind (AtParam h k count) marks (within before rule part) ≡ behind (before ++ all Left (declared (param ∷ params) rule) items)

-- a parameter's kind behind its name as it is spelled there, further parameters, and then the items
pub record AfterDeclared (h : Heading) (k count : ℕ) (state : State) (spell : Kind → Parts → Parts) (marks : List Mark) (parts : Parts) : Type 0 where
  pub kind : Kind
  pub params : List ParamForm
  pub good : AllByRecursion IsParam params
  pub items : ItemsAt (left_spot h k)
  pub same : parts ≡ spell kind (spell_more_params count params (body h k items))
  pub held : (before : List RuleForm) (rule : RuleForm) (name : Mention) → held_behind state marks (within before rule (Declared name))
      ≡ behind (before ++ all Left (declared (record { name = name; kind = kind } ∷ params) rule) items)

abbrev pub spell_kind : Kind → Parts → Parts
spell_kind kind rest = word Fixed (kind_word kind) ∷ rest

abbrev pub spell_colon : Kind → Parts → Parts
spell_colon kind rest = sign Fixed (codes ":") ∷ spell_kind kind rest

abbrev pub After : State → List Mark → Parts → Type 0
After (AtRules h) marks parts = AfterHeader h marks parts
After (AtName h k) marks parts = AfterRule h k marks parts
After (AtLeft h k) marks parts = AfterParams h k (AtLeft h k) spell_params marks parts
After (AtParam h k count) marks parts = AfterParam h k count marks parts
After (AtColon h k count) marks parts = AfterDeclared h k count (AtColon h k count) spell_colon marks parts
After (AtKind h k count) marks parts = AfterDeclared h k count (AtKind h k count) spell_kind marks parts
After (AtComma h k count) marks parts = AfterParams h k (AtComma h k count) (spell_more_params count) marks parts
After (AtBody h k) marks parts = AfterBody h k marks parts
After (AtItem spot) marks parts = AfterItems spot marks parts
After (AtSign spot name) marks parts = AfterName spot name marks parts
After (AtLetter spot k) marks parts = AfterLetter spot k marks parts
After (AtBehind spot) marks parts = AfterBehind spot marks parts
After (AtSet spot) marks parts = AfterSet spot marks parts
After (AtEqual spot) marks parts = AfterEqual spot marks parts
After (AtExpr (SetSlot spot) at) marks parts = AfterValue spot at marks parts
After (AtExpr (PreSlot h k) at) marks parts = AfterPre h k at marks parts
After (AtRuleEnd h k) marks parts = AfterRuleEnd h k marks parts
After (AtLabel spot) marks parts = AfterLabel spot marks parts
After (AtDash spot) marks parts = AfterDash spot marks parts
After (AtTo spot) marks parts = AfterTo spot marks parts
After AtEnd marks parts = (marks ≡ []) × (parts ≡ [])

-- ---- what a move tells of its symbol

pub expected : (wanted found : List ℕ) (state next : State) → expect wanted found state ≡ Some next → (found ≡ wanted) × (state ≡ next)
expected wanted found state next e = go (bytes_eq found wanted) refl
  where
    go : (b : Bool) → bytes_eq found wanted ≡ b → (found ≡ wanted) × (state ≡ next)
    go true is = let one : Some state ≡ Some next = rw is at e in ((bytes_eq-Decides found wanted).0 is, cc one)
    go false is = let one : None ≡ Some next = rw is at e in absurd cc

pub free_word : (word : List ℕ) (state next : State) → unless_reserved word state ≡ Some next → (is_among reserved word ≡ false) × (state ≡ next)
free_word word state next e = go (is_among reserved word) refl
  where
    go : (b : Bool) → is_among reserved word ≡ b → (is_among reserved word ≡ false) × (state ≡ next)
    go true is = let one : None ≡ Some next = rw is at e in absurd cc
    go false is = let one : Some state ≡ Some next = rw is at e in (is, cc one)

abbrev pub mark_at : Symbol → ℕ → Mark
mark_at symbol place = record { symbol = symbol; place = place }

abbrev pub part_in : State → Symbol → ℕ → reading.Part Role
part_in state symbol place = record { symbol = symbol; role = role_at state symbol place }

-- ---- one item more

abbrev pub add : (version n : ℕ) (hook_before : Bool) (side : Side) (item : Item) → IsItem n side item → IsTaken version hook_before item → Items version n (hooked_by hook_before item) side → Items version n hook_before side
add version n hook_before Left item good taken items = record {
  left = item ∷ items.left;
  right = items.right;
  pre = items.pre;
  rules = items.rules;
  on = tt;
  left_good = (good, items.left_good);
  taken = (taken, items.taken);
  right_good = items.right_good;
  pre_good = items.pre_good;
  rules_good = items.rules_good;
}
add version n hook_before Right item good taken items = record {
  left = items.left;
  right = item ∷ items.right;
  pre = items.pre;
  rules = items.rules;
  on = items.on;
  left_good = items.left_good;
  taken = subst (AreTaken version hook_before) (sym items.on) tt;
  right_good = (good, items.right_good);
  pre_good = items.pre_good;
  rules_good = items.rules_good;
}

pub spelled_add : (h : Heading) (k : ℕ) (side : Side) (count : Count) (hook_before : Bool) (item : Item) (good : IsItem h.dim side item) (taken : IsTaken h.version hook_before item) (items : Items h.version h.dim (hooked_by hook_before item) side)
    → spelled (spot_at h k side count hook_before) (add h.version h.dim hook_before side item good taken items) ≡ spell_item h.dim count item (spelled (after_item (spot_at h k side count hook_before) item) items)
spelled_add h k Left count hook_before item good taken items = refl
spelled_add h k Right count hook_before item good taken items = refl

pub all_put : (version n : ℕ) (hook_before : Bool) (side : Side) (item : Item) (good : IsItem n side item) (taken : IsTaken version hook_before item) (rule : RuleForm) (items : Items version n (hooked_by hook_before item) side)
    → all side (put side item rule) items ≡ all side rule (add version n hook_before side item good taken items)
all_put version n hook_before Left item good taken rule items = ap (λ (left : List Item). let r : RuleForm = record { name = rule.name; params = rule.params; left = left; right = rule.right ++ items.right; pre = either items.pre rule.pre } in r ∷ items.rules) (append_assoc rule.left (item ∷ []) items.left)
all_put version n hook_before Right item good taken rule items = ap (λ (right : List Item). let r : RuleForm = record { name = rule.name; params = rule.params; left = rule.left ++ items.left; right = right; pre = either items.pre rule.pre } in r ∷ items.rules) (append_assoc rule.right (item ∷ []) items.right)

pub hooked-append : (items : List Item) (name : Mention) (word : List Letter) (sets : List SetForm) → hooked (items ++ NodeItem name word false sets ∷ []) ≡ items ++ NodeItem name word true sets ∷ []
hooked-append [] name word sets = refl
hooked-append (NodeItem node letters hook others ∷ []) name word sets = refl
hooked-append (LinkItem from label to ∷ []) name word sets = refl
hooked-append (NodeItem node letters hook others ∷ next ∷ items) name word sets = ap (λ (is : List Item). NodeItem node letters hook others ∷ is) (hooked-append (next ∷ items) name word sets)
hooked-append (LinkItem from label to ∷ next ∷ items) name word sets = ap (λ (is : List Item). LinkItem from label to ∷ is) (hooked-append (next ∷ items) name word sets)

pub assigned-append : (items : List Item) (name : Mention) (word : List Letter) (hook : Bool) (sets : List SetForm) (set : SetForm) → assigned set (items ++ NodeItem name word hook sets ∷ []) ≡ items ++ NodeItem name word hook (sets ++ set ∷ []) ∷ []
assigned-append [] name word hook sets set = refl
assigned-append (NodeItem node letters held others ∷ []) name word hook sets set = refl
assigned-append (LinkItem from label to ∷ []) name word hook sets set = refl
assigned-append (NodeItem node letters held others ∷ next ∷ items) name word hook sets set = ap (λ (is : List Item). NodeItem node letters held others ∷ is) (assigned-append (next ∷ items) name word hook sets set)
assigned-append (LinkItem from label to ∷ next ∷ items) name word hook sets set = ap (λ (is : List Item). LinkItem from label to ∷ is) (assigned-append (next ∷ items) name word hook sets set)

pub assign_put : (name : Mention) (word : List Letter) (hook : Bool) (front sets : List SetForm) (rule : RuleForm) → assign_all sets (put Right (NodeItem name word hook front) rule) ≡ put Right (NodeItem name word hook (front ++ sets)) rule
assign_put name word hook front [] rule = ap (λ (ss : List SetForm). put Right (NodeItem name word hook ss) rule) (sym (append-nil front))
assign_put name word hook front (set ∷ sets) rule =
    ap (λ (right : List Item). let r : RuleForm = record { name = rule.name; params = rule.params; left = rule.left; right = right; pre = rule.pre } in assign_all sets r) (assigned-append rule.right name word hook front set)
    ∙ assign_put name word hook (front ++ set ∷ []) sets rule ∙ ap (λ (ss : List SetForm). put Right (NodeItem name word hook ss) rule) (append_assoc front (set ∷ []) sets)

-- the node that was put last, once its hook is known
pub hook_put : (side : Side) (name : Mention) (word : List Letter) (hook : Bool) (rule : RuleForm) → (hook ≡ true → side ≡ Left) → (if hook then hook_last (put side (NodeItem name word false []) rule) else put side (NodeItem name word false []) rule) ≡ put side (NodeItem name word hook []) rule
hook_put side name word false rule on = refl
hook_put Left name word true rule on = ap (λ (left : List Item). let r : RuleForm = record { name = rule.name; params = rule.params; left = left; right = rule.right; pre = rule.pre } in r) (hooked-append rule.left name word [])
hook_put Right name word true rule on = let other : Right ≡ Left = on refl in absurd cc

-- and its assignments
pub finish_put : (side : Side) (name : Mention) (word : List Letter) (hook : Bool) (sets : List SetForm) (rule : RuleForm) → (hook ≡ true → side ≡ Left) → AreOn side sets → finish hook sets (put side (NodeItem name word false []) rule) ≡ put side (NodeItem name word hook sets) rule
finish_put Left name word hook sets rule on alone = ap (assign_all sets) (hook_put Left name word hook rule on) ∙ subst (λ (ss : List SetForm). assign_all ss (put Left (NodeItem name word hook []) rule) ≡ put Left (NodeItem name word hook ss) rule) (sym alone) refl
finish_put Right name word hook sets rule on alone = ap (assign_all sets) (hook_put Right name word hook rule on) ∙ assign_put name word hook [] sets rule

abbrev pub all_behind : {version n : ℕ} {hook_before : Bool} → List RuleForm → RuleForm → Items version n hook_before Left → Held
all_behind before rule items = behind (before ++ all Left rule items)

pub declared_none : (rule : RuleForm) → declared [] rule ≡ rule
declared_none rule = ap (λ (params : List ParamForm). let r : RuleForm = record { name = rule.name; params = params; left = rule.left; right = rule.right; pre = rule.pre } in r) (append-nil rule.params)

pub declared_more : (param : ParamForm) (params : List ParamForm) (rule : RuleForm) → declared params (with_param param rule) ≡ declared (param ∷ params) rule
declared_more param params rule = ap (λ (all : List ParamForm). let r : RuleForm = record { name = rule.name; params = all; left = rule.left; right = rule.right; pre = rule.pre } in r) (append_assoc rule.params (param ∷ []) params)
