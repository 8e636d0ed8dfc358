-- What one mark comes to where an expression is read, and how steps are put together.
use Rattle.std.proofs.Common.{◌≡◌, ◌<◌, ◌≤◌, ◌+◌, ℕ, Bool, true, false, List, [], ◌∷◌, ◌++◌, length, Option, Some, None, Result, Ok, Err, refl, sym, ap, subst, ◌∙◌, append_assoc, inl, inr, arith}
use Rattle.std.specs.Option.{option_map}
use Rattle.std.specs.Prelude.{IfOk, IfErr, nat_lt, IsTrue}
use Rattle.gm_model.specs.declared.limit.LimitKind.{LimitKind}
use Rattle.gm_model.specs.declared.token.Token.{Token}
use Rattle.gm_model.specs.Reading.{TextEndsAt}
use Rattle.gm_model.specs.Symbols.{Symbol, Mark}
use Rattle.gm_text.specs.inner.Cursor.{Cursor}
use Rattle.gm_text.specs.inner.Machine.{Stop, Ends, Passes}
use Rattle.gm_text.specs.inner.SchemaAnswers.{marks_left, IsNext, IsNoToken, AtStray, AtEnd, IsNoneNext, symbol_at, mark_at}
use Rattle.gm_text.specs.inner.Lexing.{IsBehindToken}
use Rattle.gm_text.proofs.Behind.{behind_next, over_then, behind_marks}
use Rattle.gm_text.proofs.Machine.{last_of}
use Rattle.gm_parse.specs.declared.fault.SyntaxFault.{SyntaxFault}
use Rattle.gm_parse.specs.declared.fault.SyntaxFault.TheVariants as faults
use Rattle.gm_parse.specs.declared.key.Key.{Key}
use Rattle.gm_parse.specs.declared.key.Key.TheVariants as keys
use Rattle.gm_parse.specs.Spelling.{limit_in, limit_of, passed_by, IsSentence}
use Rattle.gm_parse.specs.inner.Reading.{State, Spot, spot_at, first_spot, move, move_by, key_of, key_role, spot_move, spot_role, is_whole, is_whole_spot}
use Rattle.gm_parse.specs.inner.Answers.{run_in, Reads, EndsBefore, SkipsExpr, EndsIn, Stops, LeavesState, Advances, IsExprSkipped, IsSyntaxFault}
use Rattle.gm_parse.specs.inner.Taking.{Becomes}
use Rattle.gm_parse.proofs.OpenBrackets.{few_more}
use Rattle.gm_parse.specs.declared.place.Place.{Place}
use Rattle.std.proofs.lemmas.Bool.Decides.{nat_tests}
use Rattle.gm_parse.proofs.Standing.{other_spot, ends_stand, passes_stand, form_stands}

-- ---- one mark

one_read : (n : ℕ) (spot next : Spot) (mark : Mark) → spot_move spot mark.symbol ≡ Some next → limit_in (spot_role n spot mark.symbol mark.place) mark.symbol ≡ None → (last : ℕ) → run_in n spot last (mark ∷ []) ≡ Ok next
one_read n spot next mark moves free last = rw (moves, free) refl

pub reads_token : (n : ℕ) (spot next : Spot) (old new : Cursor) (token : Token) → IsNext old token new → spot_move spot (symbol_at new.text token) ≡ Some next
    → limit_in (spot_role n spot (symbol_at new.text token) token.start) (symbol_at new.text token) ≡ None → Reads n spot old new next
reads_token n spot next old new token is moves free = record {
  before = mark_at new.text token ∷ [];
  split = is.marks;
  runs = one_read n spot next (mark_at new.text token) moves free;
  text = is.text;
  onward = omega (arith, is.onward);
  over = inr (behind_next old new token is);
}

pub no_token : (symbol : Symbol) → IsNoToken symbol → key_of symbol ≡ keys.Other
no_token symbol none = elim none as (λ (s : Symbol) (is : IsNoToken s). key_of s ≡ keys.Other) [
  | AtStray ↦ refl
  | AtEnd ↦ refl
]

ends_at : (n : ℕ) (spot : Spot) (mark : Mark) (rest : List Mark) → spot_move spot mark.symbol ≡ None → (last : ℕ) → run_in n spot last (mark ∷ rest) ≡ Err (Ends spot mark)
ends_at n spot mark rest none last = rw none refl

pub stops_mark : (n : ℕ) (spot : Spot) (old : Cursor) (mark : Mark) (rest : List Mark) → marks_left old ≡ mark ∷ rest → spot_move spot mark.symbol ≡ None → is_whole_spot spot ≡ false → EndsIn n spot old mark.place
stops_mark n spot old mark rest marks none part = record {
  stop = spot;
  mark = mark;
  part = part;
  here = refl;
  ends = λ last. ap (run_in n spot last) marks ∙ ends_at n spot mark rest none last;
}

passes_at : (n : ℕ) (spot next : Spot) (mark : Mark) (rest : List Mark) (what : LimitKind) → spot_move spot mark.symbol ≡ Some next → limit_in (spot_role n spot mark.symbol mark.place) mark.symbol ≡ Some what → (last : ℕ) → run_in n spot last (mark ∷ rest) ≡ Err (Passes what mark.place)
passes_at n spot next mark rest what moves passes last = rw (moves, passes) refl

pub limit_token : (n : ℕ) (spot next : Spot) (old new : Cursor) (token : Token) (what : LimitKind) → IsNext old token new → spot_move spot (symbol_at new.text token) ≡ Some next
    → limit_in (spot_role n spot (symbol_at new.text token) token.start) (symbol_at new.text token) ≡ Some what → Stops n spot old (faults.Limit what token.start)
limit_token n spot next old new token what is moves passes last =
    ap (run_in n spot last) is.marks ∙ passes_at n spot next (mark_at new.text token) (marks_left new) what moves passes last

-- ---- one after another

data Came (n : ℕ) (spot : Spot) (last : ℕ) (mark : Mark) : Type 0 where
  On : (next : Spot) → ((rest : List Mark) → run_in n spot last (mark ∷ rest) ≡ run_in n next mark.place rest) → Came n spot last mark
  Off : (stop : Stop Spot LimitKind) → ((rest : List Mark) → run_in n spot last (mark ∷ rest) ≡ Err stop) → Came n spot last mark

came : (n : ℕ) (spot : Spot) (last : ℕ) (mark : Mark) → Came n spot last mark
came n spot last mark = go (spot_move spot mark.symbol) (limit_in (spot_role n spot mark.symbol mark.place) mark.symbol) refl refl
  where
    go : (to : Option Spot) (what : Option LimitKind) → spot_move spot mark.symbol ≡ to → limit_in (spot_role n spot mark.symbol mark.place) mark.symbol ≡ what → Came n spot last mark
    go None what e f = Off (Ends spot mark) (λ rest. rw e refl)
    go (Some next) None e f = On next (λ rest. rw (e, f) refl)
    go (Some next) (Some what) e f = Off (Passes what mark.place) (λ rest. rw (e, f) refl)

pub run_over : (n : ℕ) (spot to : Spot) (last : ℕ) (marks rest : List Mark) → run_in n spot last marks ≡ Ok to → run_in n spot last (marks ++ rest) ≡ run_in n to (last_of last marks) rest
run_over n spot to last [] rest e = let same : spot ≡ to = cc e in ap (λ (s : Spot). run_in n s last rest) same
run_over n spot to last (mark ∷ marks) rest e =
    elim (came n spot last mark) [
      | On next is ↦ is (marks ++ rest) ∙ run_over n next to mark.place marks rest (sym (is marks) ∙ e)
      | Off stop is ↦ let no_way : Err stop ≡ Ok to = sym (is marks) ∙ e in absurd cc
    ]

abbrev pub reads_self : (n : ℕ) (spot : Spot) (cursor : Cursor) → Reads n spot cursor cursor spot
reads_self n spot cursor = record { before = []; split = refl; runs = λ last. refl; text = refl; onward = omega arith; over = inl refl }

abbrev pub reads_then : (n : ℕ) (spot middle to : Spot) (old between new : Cursor) → Reads n spot old between middle → Reads n middle between new to → Reads n spot old new to
reads_then n spot middle to old between new one two = record {
  before = one.before ++ two.before;
  split = one.split ∙ ap (λ (ms : List Mark). one.before ++ ms) two.split ∙ sym (append_assoc one.before two.before (marks_left new));
  runs = λ last. run_over n spot middle last one.before two.before (one.runs last) ∙ two.runs (last_of last one.before);
  text = two.text ∙ one.text;
  onward = omega (arith, one.onward, two.onward);
  over = over_then old between new one.over two.over;
}

over : (n : ℕ) (spot middle : Spot) (old between : Cursor) (answer : Result Spot (Stop Spot LimitKind)) → Reads n spot old between middle → ((last : ℕ) → run_in n middle last (marks_left between) ≡ answer)
    → (last : ℕ) → run_in n spot last (marks_left old) ≡ answer
over n spot middle old between answer one answers last =
    ap (run_in n spot last) one.split ∙ run_over n spot middle last one.before (marks_left between) (one.runs last) ∙ answers (last_of last one.before)

pub stops_then : (n : ℕ) (spot middle : Spot) (old between : Cursor) (fault : SyntaxFault) → Reads n spot old between middle → Stops n middle between fault → Stops n spot old fault
stops_then n spot middle old between (faults.Text place) one stops = record {
  stop = stops.stop;
  mark = stops.mark;
  part = stops.part;
  here = stops.here;
  ends = over n spot middle old between (Err (Ends stops.stop stops.mark)) one stops.ends;
}
stops_then n spot middle old between (faults.Limit what place) one stops = over n spot middle old between (Err (Passes what place)) one stops

-- ---- by what a state answers

pub becomes_none : {A : Type 0} (to : Option A) (old new : A) → Becomes to old false new → (to ≡ None) × (new ≡ old)
becomes_none None old new is = (refl, is.1)
becomes_none (Some next) old new is = let no_way : false ≡ true = is.0 in absurd cc

pub becomes_some : {A : Type 0} (to : Option A) (old new : A) → Becomes to old true new → to ≡ Some new
becomes_some None old new is = let no_way : true ≡ false = is.0 in absurd cc
becomes_some (Some next) old new is = ap Some (sym is.1)

pub end_ok : (n count : ℕ) (state : State) (old : Cursor) (result : Result (Option Token) SyntaxFault) → IfOk result (λ more. (is_whole state ≡ true) × (more ≡ None)) → EndsBefore (spot_at count state) (marks_left old) → IfOk result (λ more. Advances n (spot_at count state) old more state old)
end_ok n count state old (Ok (Some token)) is ends = absurd cc
end_ok n count state old (Ok None) is ends = (refl, refl, is.0, ends)
end_ok n count state old (Err fault) is ends = is

pub end_err : (n count : ℕ) (state : State) (old : Cursor) (place : ℕ) (result : Result (Option Token) SyntaxFault) → IfErr result (λ fault. (is_whole state ≡ false) × (fault ≡ faults.Text place)) → (ends : EndsBefore (spot_at count state) (marks_left old)) → ends.next.place ≡ place
    → IfErr result (Stops n (spot_at count state) old)
end_err n count state old place (Ok more) is ends here = is
end_err n count state old place (Err fault) is ends here =
    let stops = stops_mark n (spot_at count state) old ends.next ends.others ends.split ends.none is.0 in
    subst (Stops n (spot_at count state) old) (sym is.1) (subst (λ (p : ℕ). EndsIn n (spot_at count state) old p) here stops)

pub ends_none : (spot : Spot) (old : Cursor) (place : ℕ) → IsNoneNext old place → EndsBefore spot (marks_left old)
ends_none spot old place is = record { next = is.mark; others = []; split = is.marks; none = other_spot spot is.mark.symbol (no_token is.mark.symbol is.none) }

pub spot_none : (spot : Spot) (symbol : Symbol) → move spot.state symbol ≡ None → spot_move spot symbol ≡ None
spot_none spot symbol none = ap (option_map (spot_at (spot.count + 1))) none

pub spot_some : (spot : Spot) (symbol : Symbol) (to : State) → move spot.state symbol ≡ Some to → spot_move spot symbol ≡ Some (spot_at (spot.count + 1) to)
spot_some spot symbol to moves = ap (option_map (spot_at (spot.count + 1))) moves

pub ends_token : (spot : Spot) (old new : Cursor) (token : Token) → IsNext old token new → move spot.state (symbol_at new.text token) ≡ None → EndsBefore spot (marks_left old)
ends_token spot old new token is none = record { next = mark_at new.text token; others = marks_left new; split = is.marks; none = spot_none spot (symbol_at new.text token) none }

-- ---- what one token comes to

pub none_ok : (n count : ℕ) (state : State) (old : Cursor) (place : ℕ) (result : Result (Option Token) SyntaxFault) → IfOk result (λ more. (is_whole state ≡ true) × (more ≡ None)) → IsNoneNext old place → IfOk result (λ more. Advances n (spot_at count state) old more state old)
none_ok n count state old place result is none = end_ok n count state old result is (ends_none (spot_at count state) old place none)

pub none_err : (n count : ℕ) (state : State) (old : Cursor) (place : ℕ) (result : Result (Option Token) SyntaxFault) → IfErr result (λ fault. (is_whole state ≡ false) × (fault ≡ faults.Text place)) → IsNoneNext old place → IfErr result (Stops n (spot_at count state) old)
none_err n count state old place result is none = end_err n count state old place result is (record { next = none.mark; others = []; split = none.marks; none = other_spot (spot_at count state) none.mark.symbol (no_token none.mark.symbol none.none) }) none.here

pub none_stays : (state : State) (old : Cursor) (place : ℕ) (result : Result (Option Token) SyntaxFault) → IfErr result (λ fault. (is_whole state ≡ false) × (fault ≡ faults.Text place)) → IfErr result (LeavesState old state state)
none_stays state old place (Ok more) part = part
none_stays state old place (Err fault) part = subst (LeavesState old state state) (sym part.1) refl

module _ (n count : ℕ) (state after : State) (old new : Cursor) (token : Token) (key : Key) (next : IsNext old token new) (key_is : key ≡ key_of (symbol_at new.text token)) where
  moves_key : (to : Option State) → move_by state state.place key ≡ to → move state (symbol_at new.text token) ≡ to
  moves_key to e = ap (move_by state state.place) (sym key_is) ∙ e

  stuck : (moved : Bool) → moved ≡ false → Becomes (move_by state state.place key) state moved after → (move state (symbol_at new.text token) ≡ None) × (after ≡ state)
  stuck moved e is = let both = becomes_none (move_by state state.place key) state after (subst (λ (b : Bool). Becomes (move_by state state.place key) state b after) e is) in (moves_key None both.0, both.1)

  pub token_ok : (moved : Bool) (result : Result (Option Token) SyntaxFault) → moved ≡ false → Becomes (move_by state state.place key) state moved after → IfOk result (λ more. (is_whole after ≡ true) × (more ≡ None)) → IfOk result (λ more. Advances n (spot_at count state) old more after old)
  token_ok moved result e is whole =
      let (none, same) = stuck moved e is in
      let at = subst (λ (s : State). IfOk result (λ more. (is_whole s ≡ true) × (more ≡ None))) same whole in
      subst (λ (s : State). IfOk result (λ more. Advances n (spot_at count state) old more s old)) (sym same) (end_ok n count state old result at (ends_token (spot_at count state) old new token next none))

  pub token_stays : (moved : Bool) (result : Result (Option Token) SyntaxFault) → moved ≡ false → Becomes (move_by state state.place key) state moved after → IfErr result (λ fault. (is_whole after ≡ false) × (fault ≡ faults.Text token.start)) → IfErr result (LeavesState old state after)
  token_stays moved (Ok more) e is part = part
  token_stays moved (Err fault) e is part = subst (LeavesState old state after) (sym part.1) (stuck moved e is).1

  pub token_err : (moved : Bool) (result : Result (Option Token) SyntaxFault) → moved ≡ false → Becomes (move_by state state.place key) state moved after → IfErr result (λ fault. (is_whole after ≡ false) × (fault ≡ faults.Text token.start)) → IfErr result (Stops n (spot_at count state) old)
  token_err moved result e is part =
      let (none, same) = stuck moved e is in
      let at = subst (λ (s : State). IfErr result (λ fault. (is_whole s ≡ false) × (fault ≡ faults.Text token.start))) same part in
      end_err n count state old token.start result at (record { next = mark_at new.text token; others = marks_left new; split = next.marks; none = spot_none (spot_at count state) (symbol_at new.text token) none }) refl

  module _ (place : Place) (place_is : place ≡ state.place) (moved : Bool) (e : moved ≡ true) (is : Becomes (move_by state state.place key) state moved after) where
    by_key : move_by state state.place key ≡ Some after
    by_key = becomes_some (move_by state state.place key) state after (subst (λ (b : Bool). Becomes (move_by state state.place key) state b after) e is)

    on_token : spot_move (spot_at count state) (symbol_at new.text token) ≡ Some (spot_at (count + 1) after)
    on_token = spot_some (spot_at count state) (symbol_at new.text token) after (moves_key (Some after) by_key)

    the_limit : (what : Option LimitKind) → what ≡ limit_in (record { ordinal = count + 1; role = key_role n place key token.start }) (symbol_at new.text token) → limit_in (spot_role n (spot_at count state) (symbol_at new.text token) token.start) (symbol_at new.text token) ≡ what
    the_limit what limit =
        sym (limit ∙ ap (λ (p : Place). limit_in (record { ordinal = count + 1; role = key_role n p key token.start }) (symbol_at new.text token)) place_is
        ∙ ap (λ (k : Key). limit_in (record { ordinal = count + 1; role = key_role n state.place k token.start }) (symbol_at new.text token)) key_is)

    pub token_left : (what : LimitKind) → LeavesState old state after (faults.Limit what token.start)
    token_left what = (mark_at new.text token, marks_left new, next.marks, moves_key (Some after) by_key)

    pub token_passes : (what : LimitKind) → Some what ≡ limit_in (record { ordinal = count + 1; role = key_role n place key token.start }) (symbol_at new.text token) → Stops n (spot_at count state) old (faults.Limit what token.start)
    token_passes what limit = limit_token n (spot_at count state) (spot_at (count + 1) after) old new token what next on_token (the_limit (Some what) limit)

    few_left : (own : Option LimitKind) → passed_by own (nat_lt 256 (count + 1)) ≡ None → count < 256
    few_left None limit = go (nat_lt 256 (count + 1)) refl limit
      where
        go : (b : Bool) → nat_lt 256 (count + 1) ≡ b → passed_by None b ≡ None → count < 256
        go true e limit = absurd cc
        go false e limit = grind (arith, nat_tests, e)
    few_left (Some what) limit = absurd cc

    pub token_on : None ≡ limit_in (record { ordinal = count + 1; role = key_role n place key token.start }) (symbol_at new.text token) → length state.open_brackets ≤ count → Advances n (spot_at count state) old (Some token) after new
    token_on limit room = (
      reads_token n (spot_at count state) (spot_at (count + 1) after) old new token next on_token (the_limit None limit),
      next.onward,
      next.within,
      few_left (limit_of (key_role n place key token.start) (symbol_at new.text token)) (sym limit),
      omega (arith, room, few_more state after state.place key by_key),
      next,
    )

-- ---- as a whole

-- from the first spot to a whole expression the lexer goes past a token at least
pub whole_behind : (n : ℕ) (to : Spot) (old new : Cursor) → IsTrue (is_whole_spot to) → Reads n first_spot old new to → IsBehindToken old new
whole_behind n to old new whole reads =
    behind_marks old new reads.before reads.split reads.over (λ empty.
    let stays : Ok first_spot ≡ Ok to = subst (λ (marks : List Mark). run_in n first_spot 0 marks ≡ Ok to) empty (reads.runs 0) in
    let same : first_spot ≡ to = cc stays in
    let part : false ≡ true = ap is_whole_spot same ∙ whole in
    absurd cc)

pub skip_stands : (n : ℕ) (old new : Cursor) → SkipsExpr n old new → IsExprSkipped n old new
skip_stands n old new skips =
    let (form, stands, before) = form_stands n (marks_left old) skips.reads.before (marks_left new) skips.ends.next skips.ends.others skips.last (skips.reads.runs 0) skips.whole skips.reads.split skips.ends.split skips.ends.none in
    record { form = form; stands = stands }

pub skip_fault : (n : ℕ) (old : Cursor) (fault : SyntaxFault) → Stops n first_spot old fault → IsSyntaxFault n (marks_left old) fault
skip_fault n old (faults.Text place) ends = subst (λ (p : ℕ). TextEndsAt (IsSentence n) limit_in (marks_left old) p) ends.here (ends_stand n (marks_left old) ends.stop ends.mark (ends.ends 0) ends.part)
skip_fault n old (faults.Limit what place) passes = passes_stand n (marks_left old) what place (passes 0)
