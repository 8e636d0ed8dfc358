-- A symbol opens one bracket at most.
use Rattle.std.proofs.Common.{◌≡◌, ◌≤◌, ◌+◌, Bool, true, false, List, [], ◌∷◌, length, Option, Some, None, refl, subst, arith}
use Rattle.gm_model.specs.declared.expr.BinOp.{BinOp}
use Rattle.gm_model.specs.declared.expr.BinOp.TheVariants as ops
use Rattle.gm_parse.specs.declared.key.Key.{Key}
use Rattle.gm_parse.specs.declared.key.Key.TheVariants as keys
use Rattle.gm_parse.specs.declared.place.Bracket.{Bracket}
use Rattle.gm_parse.specs.declared.place.Bracket.TheVariants as brackets
use Rattle.gm_parse.specs.declared.place.Need.{Need}
use Rattle.gm_parse.specs.declared.place.Need.TheVariants as needs
use Rattle.gm_parse.specs.declared.place.Place.{Place}
use Rattle.gm_parse.specs.declared.place.Place.TheVariants as places
use Rattle.gm_parse.specs.inner.Reading.{State, state_at, move_to, operand_move, operand_place, operator_move, compare_move, close_move, comma_move, then_move, else_move, behind_move, behind_name_move, term_place, move_by}

-- as many are open as in the state, or one more
abbrev AreFew : State → Option State → Type 0
AreFew state None = Unit {0}
AreFew state (Some next) = length next.open_brackets ≤ length state.open_brackets + 1

to_few : (state : State) (to : Option Place) → AreFew state (move_to state to)
to_few state None = tt
to_few state (Some place) = omega arith

operand_few : (state : State) (need : Need) (key : Key) → AreFew state (operand_move state need key)
operand_few state need keys.Open = omega arith
operand_few state needs.Any keys.If = omega arith
operand_few state needs.NoIf keys.If = tt
operand_few state needs.Tight keys.If = tt
operand_few state need key = to_few state (operand_place need key)

compare_few : (state : State) → AreFew state (compare_move state)
compare_few state = go state.compared refl
  where
    go : (b : Bool) → state.compared ≡ b → AreFew state (compare_move state)
    go true e = rw e tt
    go false e = rw e (omega arith)

operator_few : (state : State) (op : BinOp) → AreFew state (operator_move state op)
operator_few state ops.Or = omega arith
operator_few state ops.And = omega arith
operator_few state ops.Add = omega arith
operator_few state ops.Sub = omega arith
operator_few state ops.Mul = omega arith
operator_few state ops.Div = omega arith
operator_few state ops.Rem = omega arith
operator_few state _ = compare_few state

module _ (compared : Bool) (place : Place) where
  abbrev FewAt : List Bracket → Option State → Type 0
  FewAt open_brackets to = AreFew (state_at open_brackets compared place) to

  close_few : (o : List Bracket) → FewAt o (close_move o)
  close_few [] = tt
  close_few (brackets.Group c ∷ o) = omega arith
  close_few (brackets.Call c ∷ o) = omega arith
  close_few (brackets.If ∷ o) = tt
  close_few (brackets.Then ∷ o) = tt

  comma_few : (o : List Bracket) → FewAt o (comma_move o)
  comma_few [] = tt
  comma_few (brackets.Group c ∷ o) = tt
  comma_few (brackets.Call c ∷ o) = omega arith
  comma_few (brackets.If ∷ o) = tt
  comma_few (brackets.Then ∷ o) = tt

  then_few : (o : List Bracket) → FewAt o (then_move o)
  then_few [] = tt
  then_few (brackets.Group c ∷ o) = tt
  then_few (brackets.Call c ∷ o) = tt
  then_few (brackets.If ∷ o) = omega arith
  then_few (brackets.Then ∷ o) = tt

  else_few : (o : List Bracket) → FewAt o (else_move o)
  else_few [] = tt
  else_few (brackets.Group c ∷ o) = tt
  else_few (brackets.Call c ∷ o) = tt
  else_few (brackets.If ∷ o) = tt
  else_few (brackets.Then ∷ o) = omega arith

behind_few : (state : State) (key : Key) → AreFew state (behind_move state key)
behind_few state (keys.Operator op) = operator_few state op
behind_few state keys.Close = close_few state.compared state.place state.open_brackets
behind_few state keys.Comma = comma_few state.compared state.place state.open_brackets
behind_few state keys.Then = then_few state.compared state.place state.open_brackets
behind_few state keys.Else = else_few state.compared state.place state.open_brackets
behind_few state _ = tt

name_few : (state : State) (key : Key) → AreFew state (behind_name_move state key)
name_few state keys.Open = omega arith
name_few state keys.At = omega arith
name_few state keys.Dot = omega arith
name_few state key = behind_few state key

move_few : (state : State) (place : Place) (key : Key) → AreFew state (move_by state place key)
move_few state (places.Operand need) key = operand_few state need key
move_few state places.Behind key = behind_few state key
move_few state places.BehindName key = name_few state key
move_few state place key = to_few state (term_place place key)

pub few_more : (state next : State) (place : Place) (key : Key) → move_by state place key ≡ Some next → length next.open_brackets ≤ length state.open_brackets + 1
few_more state next place key moves = subst (AreFew state) moves (move_few state place key)
