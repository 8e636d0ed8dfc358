-- How the text of an expression is read, one symbol after another: what can stand next, in which role, and which brackets are open.
use Rattle.std.specs.Prelude.{ℕ, ◌+◌, Bool, true, false, if◌then◌else◌, List, [], ◌∷◌, Option, Some, None, is_some, codes}
use Rattle.std.specs.Option.{option_map}
use Rattle.std.specs.Str.{bytes_eq}
use Rattle.gm_model.specs.declared.expr.BinOp.{BinOp}
use Rattle.gm_model.specs.declared.expr.BinOp.TheVariants as ops
use Rattle.gm_model.specs.Names.{reserved, is_among}
use Rattle.gm_model.specs.Symbols.{Symbol, Word, Numeral, Sign}
use Rattle.gm_text.specs.inner.Nested.{Nested, Outside, Nesting}
use Rattle.gm_parse.specs.declared.key.Collector.TheVariants as collectors
use Rattle.gm_parse.specs.declared.key.Key.{Key}
use Rattle.gm_parse.specs.declared.key.Key.TheVariants as keys
use Rattle.gm_parse.specs.declared.place.Bracket.{Bracket}
use Rattle.gm_parse.specs.declared.place.Bracket.TheVariants as brackets
use Rattle.gm_parse.specs.declared.place.Ending.{Ending}
use Rattle.gm_parse.specs.declared.place.Ending.TheVariants as endings
use Rattle.gm_parse.specs.declared.place.Need.{Need}
use Rattle.gm_parse.specs.declared.place.Need.TheVariants as needs
use Rattle.gm_parse.specs.declared.place.Place.{Place}
use Rattle.gm_parse.specs.declared.place.Place.TheVariants as places
use Rattle.gm_parse.specs.Spelling.{Role, Fixed, Quantity, NameAt, LabelAt, StepAt, Counted}

-- ---- what a symbol is to expressions

abbrev pub keyword : List ℕ → Key
keyword w =
    if bytes_eq w (codes "true") then keys.Truth true
    else (if bytes_eq w (codes "false") then keys.Truth false
    else (if bytes_eq w (codes "if") then keys.If
    else (if bytes_eq w (codes "then") then keys.Then
    else (if bytes_eq w (codes "else") then keys.Else
    else (if bytes_eq w (codes "not") then keys.Not
    else (if bytes_eq w (codes "and") then keys.Operator ops.And
    else (if bytes_eq w (codes "or") then keys.Operator ops.Or
    else (if bytes_eq w (codes "same") then keys.Same
    else (if bytes_eq w (codes "count") then keys.Count
    else (if bytes_eq w (codes "sum") then keys.Collect collectors.Sum
    else (if bytes_eq w (codes "min") then keys.Collect collectors.Least
    else (if bytes_eq w (codes "max") then keys.Collect collectors.Greatest
    else keys.Other))))))))))))

abbrev pub sign_key : List ℕ → Key
sign_key s =
    if bytes_eq s (codes "(") then keys.Open
    else (if bytes_eq s (codes ")") then keys.Close
    else (if bytes_eq s (codes ",") then keys.Comma
    else (if bytes_eq s (codes ".") then keys.Dot
    else (if bytes_eq s (codes "@") then keys.At
    else (if bytes_eq s (codes "+") then keys.Operator ops.Add
    else (if bytes_eq s (codes "-") then keys.Operator ops.Sub
    else (if bytes_eq s (codes "*") then keys.Operator ops.Mul
    else (if bytes_eq s (codes "/") then keys.Operator ops.Div
    else (if bytes_eq s (codes "%") then keys.Operator ops.Rem
    else (if bytes_eq s (codes "==") then keys.Operator ops.Eq
    else (if bytes_eq s (codes "!=") then keys.Operator ops.Ne
    else (if bytes_eq s (codes "<") then keys.Operator ops.Lt
    else (if bytes_eq s (codes "<=") then keys.Operator ops.Le
    else (if bytes_eq s (codes ">") then keys.Operator ops.Gt
    else (if bytes_eq s (codes ">=") then keys.Operator ops.Ge
    else keys.Other)))))))))))))))

-- a word that isn't reserved is a name
abbrev pub key_of : Symbol → Key
key_of (Word w) = if is_among reserved w then keyword w else keys.Name
key_of (Numeral n) = keys.Number
key_of (Sign s) = sign_key s
key_of _ = keys.Other

-- ---- states

-- The brackets that are open, the innermost first; whether a comparison was read since the last one, or the last `and`
-- or `or`, so that no further one can follow; and what can stand next.
pub record State : Type 0 where
  pub open_brackets : List Bracket
  pub compared : Bool
  pub place : Place

abbrev pub state_at : List Bracket → Bool → Place → State
state_at open_brackets compared place = record { open_brackets = open_brackets; compared = compared; place = place }

abbrev pub start : State
start = state_at [] false (places.Operand needs.Any)

-- the same brackets, another place
abbrev pub at : State → Place → Option State
at state place = Some (record state { place = place })

-- after a further bracket a whole expression begins
abbrev pub opened : State → Bracket → State
opened state bracket = state_at (bracket ∷ state.open_brackets) false (places.Operand needs.Any)

-- the same brackets, and the place where there is one
abbrev pub move_to : State → Option Place → Option State
move_to state to = option_map (λ (place : Place). record state { place = place }) to

-- ---- where an operand begins

abbrev pub if_move : State → Need → Option State
if_move state needs.Any = Some (opened state brackets.If)
if_move state _ = None

abbrev pub not_place : Need → Option Place
not_place needs.Tight = None
not_place _ = Some (places.Operand needs.NoIf)

abbrev pub operand_place : Need → Key → Option Place
operand_place need keys.Number = Some places.Behind
operand_place need (keys.Truth b) = Some places.Behind
operand_place need keys.Name = Some places.BehindName
operand_place need (keys.Operator ops.Sub) = Some (places.Operand needs.Tight)
operand_place need keys.Not = not_place need
operand_place need keys.Same = Some places.Same
operand_place need keys.Count = Some (places.Orbit endings.Close)
operand_place need (keys.Collect collector) = Some (places.Orbit endings.FieldClose)
operand_place need _ = None

abbrev pub operand_move : State → Need → Key → Option State
operand_move state need keys.Open = Some (opened state (brackets.Group state.compared))
operand_move state need keys.If = if_move state need
operand_move state need key = move_to state (operand_place need key)

-- ---- after an operand

abbrev pub compare_move : State → Option State
compare_move state = if state.compared then None else Some (state_at state.open_brackets true (places.Operand needs.Tight))

abbrev pub operator_move : State → BinOp → Option State
operator_move state ops.Or = Some (state_at state.open_brackets false (places.Operand needs.NoIf))
operator_move state ops.And = Some (state_at state.open_brackets false (places.Operand needs.NoIf))
operator_move state ops.Add = at state (places.Operand needs.Tight)
operator_move state ops.Sub = at state (places.Operand needs.Tight)
operator_move state ops.Mul = at state (places.Operand needs.Tight)
operator_move state ops.Div = at state (places.Operand needs.Tight)
operator_move state ops.Rem = at state (places.Operand needs.Tight)
operator_move state _ = compare_move state

-- after the bracket it is as it was before it
abbrev pub close_move : List Bracket → Option State
close_move (brackets.Group compared ∷ others) = Some (state_at others compared places.Behind)
close_move (brackets.Call compared ∷ others) = Some (state_at others compared places.Behind)
close_move _ = None

abbrev pub comma_move : List Bracket → Option State
comma_move (brackets.Call compared ∷ others) = Some (state_at (brackets.Call compared ∷ others) false (places.Operand needs.Any))
comma_move _ = None

abbrev pub then_move : List Bracket → Option State
then_move (brackets.If ∷ others) = Some (state_at (brackets.Then ∷ others) false (places.Operand needs.Any))
then_move _ = None

-- the last part ends where the whole one does
abbrev pub else_move : List Bracket → Option State
else_move (brackets.Then ∷ others) = Some (state_at others false (places.Operand needs.Any))
else_move _ = None

abbrev pub behind_move : State → Key → Option State
behind_move state (keys.Operator op) = operator_move state op
behind_move state keys.Close = close_move state.open_brackets
behind_move state keys.Comma = comma_move state.open_brackets
behind_move state keys.Then = then_move state.open_brackets
behind_move state keys.Else = else_move state.open_brackets
behind_move state _ = None

-- a name can be a function, a node or a parameter
abbrev pub behind_name_move : State → Key → Option State
behind_name_move state keys.Open = Some (opened state (brackets.Call state.compared))
behind_name_move state keys.At = at state (places.Step endings.Field)
behind_name_move state keys.Dot = at state (places.Field endings.Field)
behind_name_move state key = behind_move state key

-- ---- dart terms

-- a label of a path, or what stands after the term
abbrev pub behind_node : Ending → Key → Option Place
behind_node ending keys.At = Some (places.Step ending)
behind_node endings.Comma keys.Comma = Some (places.Node endings.Close)
behind_node endings.Close keys.Close = Some places.Behind
behind_node endings.Field keys.Dot = Some (places.Field endings.Field)
behind_node endings.FieldClose keys.Dot = Some (places.Field endings.FieldClose)
behind_node _ _ = None

abbrev pub behind_field : Ending → Place
behind_field endings.FieldClose = places.Close
behind_field _ = places.Behind

-- where a term and what is read at it go on; elsewhere they don't
abbrev pub term_place : Place → Key → Option Place
term_place places.Same keys.Open = Some (places.Node endings.Comma)
term_place (places.Orbit ending) (keys.Operator ops.Lt) = Some (places.Label ending)
term_place (places.Label ending) keys.Number = Some (places.Label ending)
term_place (places.Label ending) (keys.Operator ops.Gt) = Some (places.Open ending)
term_place (places.Open ending) keys.Open = Some (places.Node ending)
term_place (places.Node ending) keys.Name = Some (places.BehindNode ending)
term_place (places.BehindNode ending) key = behind_node ending key
term_place (places.Step ending) keys.Number = Some (places.BehindNode ending)
term_place (places.Field ending) keys.Name = Some (behind_field ending)
term_place places.Close keys.Close = Some places.Behind
term_place _ _ = None

-- ---- moves

abbrev pub move_by : State → Place → Key → Option State
move_by state (places.Operand need) key = operand_move state need key
move_by state places.Behind key = behind_move state key
move_by state places.BehindName key = behind_name_move state key
move_by state place key = move_to state (term_place place key)

-- the state after a symbol, where it can stand
abbrev pub move : State → Symbol → Option State
move state symbol = move_by state state.place (key_of symbol)

-- an expression can end there
abbrev pub is_whole_at : List Bracket → Place → Bool
is_whole_at [] places.Behind = true
is_whole_at [] places.BehindName = true
is_whole_at _ _ = false

abbrev pub is_whole : State → Bool
is_whole state = is_whole_at state.open_brackets state.place

-- ---- roles

abbrev pub number_role : ℕ → Place → ℕ → Role
number_role n (places.Label ending) place = LabelAt n place
number_role n (places.Step ending) place = StepAt n
number_role n _ place = Quantity

abbrev pub key_role : ℕ → Place → Key → ℕ → Role
key_role n where_it_is keys.Number place = number_role n where_it_is place
key_role n where_it_is keys.Name place = NameAt place
key_role n where_it_is _ place = Fixed

-- the role of a symbol that stands at a place of the text, where labels go up to n
abbrev pub role_at : ℕ → State → Symbol → ℕ → Role
role_at n state symbol place = key_role n state.place (key_of symbol) place

-- ---- symbols are counted

-- after this many symbols
pub record Spot : Type 0 where
  pub count : ℕ
  pub state : State

abbrev pub spot_at : ℕ → State → Spot
spot_at count state = record { count = count; state = state }

abbrev pub first_spot : Spot
first_spot = spot_at 0 start

abbrev pub spot_move : Spot → Symbol → Option Spot
spot_move spot symbol = option_map (spot_at (spot.count + 1)) (move spot.state symbol)

abbrev pub spot_role : ℕ → Spot → Symbol → ℕ → Counted
spot_role n spot symbol place = record { ordinal = spot.count + 1; role = role_at n spot.state symbol place }

abbrev pub is_whole_spot : Spot → Bool
is_whole_spot spot = is_whole spot.state

-- no symbol tells what the one before it is
abbrev pub never : Counted → Bool
never role = false

-- ---- an expression before anything else

-- After an expression stands something with which it doesn't go on, and then anything.
pub data Around : Type 0 where
  AtNext : Spot → Around
  AtRest : Around

abbrev pub around_move : Around → Symbol → Option (Nested Around Spot)
around_move (AtNext spot) symbol = if is_some (spot_move spot symbol) then None else Some (Outside AtRest)
around_move AtRest symbol = Some (Outside AtRest)

abbrev pub standing : ℕ → Nesting Around Spot Counted Counted
standing n = record {
  outer_role = λ around symbol place. record { ordinal = 0; role = Fixed };
  outer_move = around_move;
  inner_role = spot_role n;
  inner_move = spot_move;
  wrap = λ role. role;
  is_whole = is_whole_spot;
  behind = AtNext;
}
