-- How a book's text is read, one symbol after another: what can stand next in which role, and what is held of its rules.
use Rattle.std.specs.Prelude.{ℕ, ◌+◌, Bool, true, false, not, ◌&&◌, ◌||◌, ◌==◌, if◌then◌else◌, List, [], ◌∷◌, ◌++◌, length, Option, Some, None, is_some, Result, codes}
use Rattle.std.specs.Option.{option_map, option_map_or}
use Rattle.std.specs.Str.{bytes_eq}
use Rattle.gm_model.specs.declared.limit.LimitKind.{LimitKind}
use Rattle.gm_model.specs.declared.rule.Side.{Side}
use Rattle.gm_model.specs.declared.rule.Side.TheVariants.{Left, Right}
use Rattle.gm_model.specs.declared.value.Kind.{Kind}
use Rattle.gm_model.specs.declared.value.Kind.TheVariants as kinds
use Rattle.gm_model.specs.declared.word.Letter.{Letter}
use Rattle.gm_model.specs.declared.word.Letter.TheVariants as letters
use Rattle.gm_model.specs.Names.{reserved, Mention, is_among}
use Rattle.gm_model.specs.Symbols.{Symbol, Word, Numeral, Sign, Gone, End, Mark}
use Rattle.gm_forms.specs.BookText.{ExprToken, SetForm, Item, NodeItem, LinkItem, ParamForm, RuleForm, Count, no_count, count_across, with_name, Role, Fixed, InSchema, RuleWord, NameAt, ParamName, NodeSign, LinkSign, LetterAt, LabelAt, InExpr, limit_of, stands_before}
use Rattle.gm_forms.specs.declared.state.Heading.{Heading}
use Rattle.gm_text.specs.inner.Machine as machine
use Rattle.gm_text.specs.inner.Nested.{Nested, Outside, Inside, Nesting}
use Rattle.gm_text.specs.inner.Nested as nested
use Rattle.gm_text.specs.SchemaText as schemas
use Rattle.gm_text.specs.inner.SchemaReading as schema
use Rattle.gm_parse.specs.inner.Reading as exprs
use Rattle.gm_parse.specs.inner.Reading.{first_spot, spot_move, spot_role, is_whole_spot}

-- ---- states in the rules

-- where in a side of a rule reading is: the heading, how many rules have begun, the side, how much there is so far, and whether the rule has a hook so far
pub record Spot : Type 0 where
  pub heading : Heading
  pub rules : ℕ
  pub side : Side
  pub count : Count
  pub hooked : Bool

-- what an expression is of, which is what goes on after it
pub data Slot : Type 0 where
  -- an assignment of a node of this side, which is a right one
  SetSlot : Spot → Slot
  -- the precondition of the rule with this ordinal
  PreSlot : Heading → ℕ → Slot

pub data State : Type 0 where
  -- after the header, which is of this version and dimension
  AtRules : Heading → State
  -- before the name of the rule with this ordinal, and after it
  AtName : Heading → ℕ → State
  AtLeft : Heading → ℕ → State
  -- before the name of a parameter, after this many of its rule
  AtParam : Heading → ℕ → ℕ → State
  -- after the name of the parameter with this ordinal, before its kind, and after it
  AtColon : Heading → ℕ → ℕ → State
  AtKind : Heading → ℕ → ℕ → State
  AtComma : Heading → ℕ → ℕ → State
  -- after all parameters
  AtBody : Heading → ℕ → State
  -- where an item can begin, and after its first name
  AtItem : Spot → State
  AtSign : Spot → List ℕ → State
  -- in a node's word after this many letters, and after the word
  AtLetter : Spot → ℕ → State
  AtBehind : Spot → State
  -- in an assignment before the name of an embedding, and after it
  AtSet : Spot → State
  AtEqual : Spot → State
  -- in an expression, after this many of its symbols
  AtExpr : Slot → exprs.Spot → State
  -- after the precondition of the rule with this ordinal
  AtRuleEnd : Heading → ℕ → State
  -- in a link before its label, after it, and before its second name
  AtLabel : Spot → State
  AtDash : Spot → State
  AtTo : Spot → State
  -- after the end
  AtEnd : State

abbrev pub heading_at : ℕ → ℕ → Heading
heading_at version n = record { version = version; dim = n }

-- the left side of the rule with this ordinal, before its first item
abbrev pub left_spot : Heading → ℕ → Spot
left_spot heading k = record { heading = heading; rules = k; side = Left; count = no_count; hooked = false }

abbrev pub right_spot : Spot → Spot
right_spot spot = record { heading = spot.heading; rules = spot.rules; side = Right; count = count_across spot.count; hooked = spot.hooked }

abbrev pub with_node : Spot → List ℕ → Spot
with_node spot name = record spot { count = record spot.count { nodes = with_name spot.count.nodes name } }

abbrev pub with_link : Spot → Spot
with_link spot = record spot { count = record spot.count { links = spot.count.links + 1 } }

abbrev pub with_hook : Spot → Spot
with_hook spot = record spot { hooked = true }

abbrev pub on_right : Spot → Spot
on_right spot = record spot { side = Right }

-- where reading is after a whole expression
abbrev pub behind_slot : Slot → State
behind_slot (SetSlot spot) = AtBehind (on_right spot)
behind_slot (PreSlot heading k) = AtRuleEnd heading k

-- up to which number labels go
abbrev pub dim_of : Slot → ℕ
dim_of (SetSlot spot) = spot.heading.dim
dim_of (PreSlot heading k) = heading.dim

-- ---- roles

-- the word that stands after the items of a side; after the right ones the next rule begins
abbrev pub closing : Side → List ℕ
closing Left = codes "right"
closing Right = codes "rule"

abbrev pub closing_role : Side → ℕ → Role
closing_role Left k = Fixed
closing_role Right k = RuleWord (k + 1)

-- the word begins a precondition, which stands after the right items
abbrev pub is_pre_on : Side → List ℕ → Bool
is_pre_on Left word = false
is_pre_on Right word = bytes_eq word (codes "pre")

-- the word begins an assignment, which only a right node may have
abbrev pub is_with_on : Side → List ℕ → Bool
is_with_on Left word = false
is_with_on Right word = bytes_eq word (codes "with")

abbrev pub item_role : Spot → Symbol → ℕ → Role
item_role spot (Word word) place = if bytes_eq word (closing spot.side) then closing_role spot.side spot.rules else (if is_pre_on spot.side word then Fixed else NameAt place)
item_role spot _ place = Fixed

-- whether a further node of a rule may be a hook, by whether there is one so far; in version 1 it may not where there is
abbrev pub takes_hook : ℕ → Bool → Bool
takes_hook version hooked = not (hooked && (version == 1))

-- the word makes the node before it a hook, which only a left one may be
abbrev pub is_hook_on : Side → Bool → List ℕ → Bool
is_hook_on Left takes word = bytes_eq word (codes "hook") && takes
is_hook_on Right takes word = false

abbrev pub is_hook : Spot → List ℕ → Bool
is_hook spot word = is_hook_on spot.side (takes_hook spot.heading.version spot.hooked) word

abbrev pub behind_role : Spot → Symbol → ℕ → Role
behind_role spot (Word word) place = if is_hook spot word then Fixed else (if is_with_on spot.side word then Fixed else item_role spot (Word word) place)
behind_role spot _ place = Fixed

abbrev pub sign_role : Spot → List ℕ → Symbol → Role
sign_role spot name (Sign sign) = if bytes_eq sign (codes "<") then NodeSign (length (with_name spot.count.nodes name)) else LinkSign (spot.count.links + 1)
sign_role spot name _ = Fixed

abbrev pub letter_role : Spot → ℕ → Symbol → Role
letter_role spot k (Sign sign) = Fixed
letter_role spot k _ = LetterAt spot.heading.dim (k + 1)

abbrev pub rules_role : Symbol → Role
rules_role (Word word) = RuleWord 1
rules_role _ = Fixed

abbrev pub end_role : ℕ → Symbol → Role
end_role k (Word word) = RuleWord (k + 1)
end_role k _ = Fixed

-- the role of a symbol that stands at a place, outside of expressions
abbrev pub plain_role : State → Symbol → ℕ → Role
plain_role (AtRules heading) symbol place = rules_role symbol
plain_role (AtName heading k) symbol place = NameAt place
plain_role (AtParam heading k count) symbol place = ParamName (count + 1) place
plain_role (AtItem spot) symbol place = item_role spot symbol place
plain_role (AtSign spot name) symbol place = sign_role spot name symbol
plain_role (AtLetter spot k) symbol place = letter_role spot k symbol
plain_role (AtBehind spot) symbol place = behind_role spot symbol place
plain_role (AtLabel spot) symbol place = LabelAt spot.heading.dim
plain_role (AtTo spot) symbol place = NameAt place
plain_role (AtSet spot) symbol place = NameAt place
plain_role (AtRuleEnd heading k) symbol place = end_role k symbol
plain_role _ symbol place = Fixed

-- A symbol with which an expression goes on is one of its own.
abbrev pub role_at : State → Symbol → ℕ → Role
role_at (AtExpr slot spot) symbol place =
    if is_some (spot_move spot symbol) then InExpr place (spot_role (dim_of slot) spot symbol place) else plain_role (behind_slot slot) symbol place
role_at state symbol place = plain_role state symbol place

-- ---- moves

abbrev pub expect : List ℕ → List ℕ → State → Option State
expect wanted found next = if bytes_eq found wanted then Some next else None

-- a reserved word is no name
abbrev pub unless_reserved : List ℕ → State → Option State
unless_reserved word next = if is_among reserved word then None else Some next

abbrev pub closed : Spot → Side → State
closed spot Left = AtItem (right_spot spot)
closed spot Right = AtName spot.heading (spot.rules + 1)

abbrev pub item_move : Spot → List ℕ → Option State
item_move spot word =
    if bytes_eq word (closing spot.side) then Some (closed spot spot.side)
    else (if is_pre_on spot.side word then Some (AtExpr (PreSlot spot.heading spot.rules) first_spot) else unless_reserved word (AtSign spot word))

abbrev pub behind_move : Spot → List ℕ → Option State
behind_move spot word = if is_hook spot word then Some (AtItem (with_hook spot)) else (if is_with_on spot.side word then Some (AtSet spot) else item_move spot word)

abbrev pub sign_move : Spot → List ℕ → List ℕ → Option State
sign_move spot name sign = if bytes_eq sign (codes "<") then Some (AtLetter (with_node spot name) 0) else (if bytes_eq sign (codes "-") then Some (AtLabel (with_link spot)) else None)

-- the book can end where a rule can
abbrev pub end_move : Side → Option State
end_move Left = None
end_move Right = Some AtEnd

-- the kind of a parameter with the word
abbrev pub param_kind : List ℕ → Option Kind
param_kind word = if bytes_eq word (codes "bool") then Some kinds.Bool else schema.kind_named word

-- the next parameter, or the end of them
abbrev pub comma_move : Heading → ℕ → ℕ → List ℕ → Option State
comma_move heading k count sign = if bytes_eq sign (codes ",") then Some (AtParam heading k count) else expect (codes ")") sign (AtBody heading k)

-- the state after a symbol, where it can stand, outside of expressions
abbrev pub plain_move : State → Symbol → Option State
plain_move (AtRules heading) (Word word) = expect (codes "rule") word (AtName heading 1)
plain_move (AtRules heading) End = Some AtEnd
plain_move (AtName heading k) (Word word) = unless_reserved word (AtLeft heading k)
plain_move (AtLeft heading k) (Word word) = expect (codes "left") word (AtItem (left_spot heading k))
plain_move (AtLeft heading k) (Sign sign) = expect (codes "(") sign (AtParam heading k 0)
plain_move (AtParam heading k count) (Word word) = unless_reserved word (AtColon heading k (count + 1))
plain_move (AtColon heading k count) (Sign sign) = expect (codes ":") sign (AtKind heading k count)
plain_move (AtKind heading k count) (Word word) = option_map (λ kind. AtComma heading k count) (param_kind word)
plain_move (AtComma heading k count) (Sign sign) = comma_move heading k count sign
plain_move (AtBody heading k) (Word word) = expect (codes "left") word (AtItem (left_spot heading k))
plain_move (AtItem spot) (Word word) = item_move spot word
plain_move (AtItem spot) End = end_move spot.side
plain_move (AtSign spot name) (Sign sign) = sign_move spot name sign
plain_move (AtLetter spot k) (Numeral label) = Some (AtLetter spot (k + 1))
plain_move (AtLetter spot k) Gone = Some (AtLetter spot (k + 1))
plain_move (AtLetter spot k) (Sign sign) = expect (codes ">") sign (AtBehind spot)
plain_move (AtBehind spot) (Word word) = behind_move spot word
plain_move (AtBehind spot) End = end_move spot.side
plain_move (AtLabel spot) (Numeral label) = Some (AtDash spot)
plain_move (AtDash spot) (Sign sign) = expect (codes "-") sign (AtTo spot)
plain_move (AtTo spot) (Word word) = unless_reserved word (AtItem spot)
plain_move (AtSet spot) (Word word) = unless_reserved word (AtEqual spot)
plain_move (AtEqual spot) (Sign sign) = expect (codes "=") sign (AtExpr (SetSlot spot) first_spot)
plain_move (AtRuleEnd heading k) (Word word) = expect (codes "rule") word (AtName heading (k + 1))
plain_move (AtRuleEnd heading k) End = Some AtEnd
plain_move _ _ = None

-- where the expression goes on, or else is whole
abbrev pub expr_move : Slot → exprs.Spot → Symbol → Option exprs.Spot → Option State
expr_move slot spot symbol (Some next) = Some (AtExpr slot next)
expr_move slot spot symbol None = if is_whole_spot spot then plain_move (behind_slot slot) symbol else None

-- the state after a symbol, where it can stand
abbrev pub move : State → Symbol → Option State
move (AtExpr slot spot) symbol = expr_move slot spot symbol (spot_move spot symbol)
move state symbol = plain_move state symbol

abbrev pub step : State → ℕ → Mark → Result State (machine.Stop State LimitKind)
step = machine.step limit_of stands_before role_at move

abbrev pub run : State → ℕ → List Mark → Result State (machine.Stop State LimitKind)
run = machine.run limit_of stands_before role_at move

-- ---- a whole book

-- the version is known after it
pub data Outer : Type 0 where
  -- before the word `book`, and before the version
  AtFormat : Outer
  AtVersion : Outer
  InRules : State → Outer

-- where in the schema reading is, in a book of this version
pub record Header : Type 0 where
  pub version : ℕ
  pub state : schema.State

abbrev pub header_at : ℕ → schema.State → Header
header_at version state = record { version = version; state = state }

abbrev pub Whole : Type 0
Whole = Nested Outer Header

abbrev pub is_version : ℕ → Bool
is_version version = (version == 1) || (version == 2)

abbrev pub outer_role : Outer → Symbol → ℕ → Role
outer_role (InRules state) symbol place = role_at state symbol place
outer_role _ symbol place = Fixed

abbrev pub in_rules : State → Whole
in_rules state = Outside (InRules state)

abbrev pub outer_move : Outer → Symbol → Option Whole
outer_move AtFormat (Word word) = if bytes_eq word (codes "book") then Some (Outside AtVersion) else None
outer_move AtVersion (Numeral version) = if is_version version then Some (Inside (header_at version schema.AtDim)) else None
outer_move (InRules state) symbol = option_map in_rules (move state symbol)
outer_move _ _ = None

-- the dimension, where the schema can end
abbrev pub dim_in : schema.State → ℕ
dim_in (schema.AtEmbeds n declared) = n
dim_in _ = 0

abbrev pub heading_in : Header → Heading
heading_in header = heading_at header.version (dim_in header.state)

-- After the version stands the schema, and after it the rules.
abbrev pub book_nesting : Nesting Outer Header Role schemas.Role
book_nesting = record {
  outer_role = outer_role;
  outer_move = outer_move;
  inner_role = λ header symbol place. schema.role_at header.state symbol place;
  inner_move = λ header symbol. option_map (header_at header.version) (schema.move header.state symbol);
  wrap = InSchema;
  is_whole = λ header. schema.is_whole header.state;
  behind = λ header. InRules (AtRules (heading_in header));
}

abbrev pub run_whole : Whole → ℕ → List Mark → Result Whole (machine.Stop Whole LimitKind)
run_whole = machine.run limit_of stands_before (nested.role_at book_nesting) (nested.move book_nesting)

-- ---- what is held

-- a parameter or an item of which a part was read
pub data Part : Type 0 where
  Nothing : Part
  -- a parameter's name
  Declared : Mention → Part
  -- its first name
  Named : Mention → Part
  -- a node's name and the letters of its word
  Lettered : Mention → List Letter → Part
  -- a link's first name, and that name and the label
  Linked : Mention → Part
  -- an assignment's name of an embedding, and so much of its expression
  Assigned : Mention → List ExprToken → Part
  -- so much of the expression of a precondition
  Required : List ExprToken → Part
  Labelled : Mention → ℕ → Part

pub record Held : Type 0 where
  -- the rules that are read whole
  pub rules : List RuleForm
  -- the rule that is read
  pub current : Option RuleForm
  pub part : Part

abbrev pub nothing_held : Held
nothing_held = record { rules = []; current = None; part = Nothing }

abbrev pub mention_at : List ℕ → ℕ → Mention
mention_at name place = record { name = name; place = place }

abbrev pub with_item : Side → Item → RuleForm → RuleForm
with_item Left item rule = record rule { left = rule.left ++ item ∷ [] }
with_item Right item rule = record rule { right = rule.right ++ item ∷ [] }

abbrev pub put_item : Side → Item → Held → Held
put_item side item held = record held { current = option_map (with_item side item) held.current; part = Nothing }

-- the last item is a hook
abbrev pub hooked : List Item → List Item
hooked [] = []
hooked (NodeItem node word hook sets ∷ []) = NodeItem node word true sets ∷ []
hooked (item ∷ items) = item ∷ hooked items

abbrev pub hook_last : RuleForm → RuleForm
hook_last rule = record rule { left = hooked rule.left }

abbrev pub with_set : SetForm → Item → Item
with_set set (NodeItem node word hook sets) = NodeItem node word hook (sets ++ set ∷ [])
with_set set item = item

-- the last item has the assignment too
abbrev pub assigned : SetForm → List Item → List Item
assigned set [] = []
assigned set (item ∷ []) = with_set set item ∷ []
assigned set (item ∷ items) = item ∷ assigned set items

abbrev pub assign_last : SetForm → RuleForm → RuleForm
assign_last set rule = record rule { right = assigned set rule.right }

abbrev pub require : List ExprToken → RuleForm → RuleForm
require tokens rule = record rule { pre = Some tokens }

-- the expression of the part is whole
abbrev pub put_expr : Held → Part → Held
put_expr held (Assigned embed tokens) = record held { current = option_map (assign_last (record { embed = embed; value = tokens })) held.current; part = Nothing }
put_expr held (Required tokens) = record held { current = option_map (require tokens) held.current; part = Nothing }
put_expr held part = held

abbrev pub with_token : ExprToken → Part → Part
with_token token (Assigned embed tokens) = Assigned embed (tokens ++ token ∷ [])
with_token token (Required tokens) = Required (tokens ++ token ∷ [])
with_token token part = part

abbrev pub listed : Option RuleForm → List RuleForm
listed None = []
listed (Some rule) = rule ∷ []

abbrev pub close_rule : Held → Held
close_rule held = record held { rules = held.rules ++ listed held.current; current = None; part = Nothing }

abbrev pub close_side : Side → Held → Held
close_side Left held = held
close_side Right held = close_rule held

abbrev pub open_rule : Mention → Held → Held
open_rule name held = record held { current = Some (record { name = name; params = []; left = []; right = []; pre = None }) }

abbrev pub with_param : ParamForm → RuleForm → RuleForm
with_param param rule = record rule { params = rule.params ++ param ∷ [] }

abbrev pub put_param : ParamForm → Held → Held
put_param param held = record held { current = option_map (with_param param) held.current; part = Nothing }

-- a parameter of which the name is read
abbrev pub hold_kind : Kind → Held → Part → Held
hold_kind kind held (Declared name) = put_param (record { name = name; kind = kind }) held
hold_kind kind held part = held

abbrev pub hold_item : Spot → List ℕ → ℕ → Held → Held
hold_item spot word place held =
    if bytes_eq word (closing spot.side) then close_side spot.side held
    else (if is_pre_on spot.side word then record held { part = Required [] } else record held { part = Named (mention_at word place) })

abbrev pub hold_behind : Spot → List ℕ → ℕ → Held → Held
hold_behind spot word place held =
    if is_hook spot word then record held { current = option_map hook_last held.current } else (if is_with_on spot.side word then held else hold_item spot word place held)

abbrev pub hold_sign : List ℕ → Part → Part
hold_sign sign (Named name) = if bytes_eq sign (codes "<") then Lettered name [] else Linked name
hold_sign sign part = part

abbrev pub hold_letter : Letter → Part → Part
hold_letter letter (Lettered name word) = Lettered name (word ++ letter ∷ [])
hold_letter letter part = part

abbrev pub hold_node : Side → Held → Part → Held
hold_node side held (Lettered name word) = put_item side (NodeItem name word false []) held
hold_node side held part = held

abbrev pub hold_label : ℕ → Part → Part
hold_label label (Linked name) = Labelled name label
hold_label label part = part

abbrev pub hold_link : Side → Mention → Held → Part → Held
hold_link side to held (Labelled from label) = put_item side (LinkItem from label to) held
hold_link side to held part = held

-- what is held after a symbol that stands at a place, outside of expressions
abbrev pub plain_hold : State → Symbol → ℕ → Held → Held
plain_hold (AtName heading k) (Word word) place held = open_rule (mention_at word place) held
plain_hold (AtParam heading k count) (Word word) place held = record held { part = Declared (mention_at word place) }
plain_hold (AtKind heading k count) (Word word) place held = option_map_or (λ (kind : Kind). hold_kind kind held held.part) (param_kind word) held
plain_hold (AtItem spot) (Word word) place held = hold_item spot word place held
plain_hold (AtItem spot) End place held = close_rule held
plain_hold (AtSign spot name) (Sign sign) place held = record held { part = hold_sign sign held.part }
plain_hold (AtLetter spot k) (Numeral label) place held = record held { part = hold_letter (letters.At label) held.part }
plain_hold (AtLetter spot k) Gone place held = record held { part = hold_letter letters.Gone held.part }
plain_hold (AtLetter spot k) (Sign sign) place held = hold_node spot.side held held.part
plain_hold (AtBehind spot) (Word word) place held = hold_behind spot word place held
plain_hold (AtBehind spot) End place held = close_rule held
plain_hold (AtLabel spot) (Numeral label) place held = record held { part = hold_label label held.part }
plain_hold (AtTo spot) (Word word) place held = hold_link spot.side (mention_at word place) held held.part
plain_hold (AtSet spot) (Word word) place held = record held { part = Assigned (mention_at word place) [] }
plain_hold (AtRuleEnd heading k) symbol place held = close_rule held
plain_hold _ symbol place held = held

abbrev pub token_at : Slot → exprs.Spot → Symbol → ℕ → ExprToken
token_at slot spot symbol place = record { symbol = symbol; place = place; role = spot_role (dim_of slot) spot symbol place }

-- what is held after a symbol that stands at a place
abbrev pub hold : State → Symbol → ℕ → Held → Held
hold (AtExpr slot spot) symbol place held =
    if is_some (spot_move spot symbol) then record held { part = with_token (token_at slot spot symbol place) held.part } else plain_hold (behind_slot slot) symbol place (put_expr held held.part)
hold state symbol place held = plain_hold state symbol place held

-- what is held after marks, along the states to which they lead
abbrev pub held_behind : State → List Mark → Held → Held
held_behind state [] held = held
held_behind state (mark ∷ marks) held = option_map_or (λ (next : State). held_behind next marks (hold state mark.symbol mark.place held)) (move state mark.symbol) held
