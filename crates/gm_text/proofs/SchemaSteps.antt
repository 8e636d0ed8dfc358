-- What one mark comes to where a schema is read, and how steps are put together.
use Rattle.std.proofs.Common.{◌≡◌, ◌≢◌, ◌≤◌, ℕ, Bool, true, false, List, [], ◌∷◌, ◌++◌, Option, Some, None, Result, Ok, Err, refl, sym, ap, subst, ◌∙◌, append_assoc, inl, inr, codes, arith}
use Rattle.std.specs.Prelude.{IfOk, IfErr}
use Rattle.gm_model.specs.declared.limit.LimitKind.{LimitKind}
use Rattle.gm_model.specs.declared.schema.Embed.{Embed}
use Rattle.gm_model.specs.Symbols.{Symbol, Word, Stray, End, Mark}
use Rattle.gm_text.specs.inner.Cursor.{Cursor}
use Rattle.gm_text.specs.inner.Lexing.{IsBehindToken}
use Rattle.gm_text.specs.inner.Machine.{Stop, Ends, Passes}
use Rattle.gm_text.specs.SchemaText.{Passed, LimitOf, Again}
use Rattle.gm_text.specs.inner.SchemaReading.{State, AtDim, AtTop, AtEmbeds, AtName, AtOrbit, AtLabel, AtKind, role_at, move, is_whole}
use Rattle.gm_text.specs.inner.SchemaAnswers.{marks_left, judged, IsKnown, run_in, Reads, EndsIn, Stops, StopsOrLost, IsNext, IsEmbedNext, IsNoToken, AtStray, AtEnd, LacksToken, symbol_at, mark_at}
use Rattle.gm_text.specs.declared.schema_fault.SchemaFault.{SchemaFault}
use Rattle.gm_text.specs.declared.schema_fault.SchemaFault.TheVariants as faults
use Rattle.gm_model.specs.declared.token.Token.{Token}
use Rattle.gm_text.proofs.Behind.{behind_next, over_then, behind_marks}
use Rattle.gm_text.proofs.Machine.{last_of}

-- ---- one mark

pub one_read : (strict : Bool) (state next : State) (mark : Mark) → move state mark.symbol ≡ Some next → judged strict (role_at state mark.symbol mark.place) mark.symbol ≡ None → (last : ℕ) → run_in strict state last (mark ∷ []) ≡ Ok next
one_read strict state next mark moves free last = rw (moves, free) refl

pub reads_token : (strict : Bool) (state next : State) (old new : Cursor) (token : Token) → IsNext old token new → move state (symbol_at new.text token) ≡ Some next
    → judged strict (role_at state (symbol_at new.text token) token.start) (symbol_at new.text token) ≡ None → Reads strict state old new next
reads_token strict state next old new token is moves free = record {
  before = mark_at new.text token ∷ [];
  split = is.marks;
  runs = one_read strict state next (mark_at new.text token) moves free;
  text = is.text;
  onward = omega (arith, is.onward);
  over = inr (behind_next old new token is);
}

-- no state goes on with what is no token
stray_moves : (state : State) → move state Stray ≡ None
stray_moves AtDim = refl
stray_moves AtTop = refl
stray_moves (AtEmbeds n declared) = refl
stray_moves (AtName n declared) = refl
stray_moves (AtOrbit n declared name) = refl
stray_moves (AtLabel n declared name mask) = refl
stray_moves (AtKind n declared name mask) = refl

end_moves : (state : State) → move state End ≡ None
end_moves AtDim = refl
end_moves AtTop = refl
end_moves (AtEmbeds n declared) = refl
end_moves (AtName n declared) = refl
end_moves (AtOrbit n declared name) = refl
end_moves (AtLabel n declared name mask) = refl
end_moves (AtKind n declared name mask) = refl

no_token_moves : (state : State) (symbol : Symbol) → IsNoToken symbol → move state symbol ≡ None
no_token_moves state symbol none = elim none as (λ (s : Symbol) (n : IsNoToken s). move state s ≡ None) [
  | AtStray ↦ stray_moves state
  | AtEnd ↦ end_moves state
]

ends_at : (strict : Bool) (state : State) (mark : Mark) (rest : List Mark) → move state mark.symbol ≡ None → (last : ℕ) → run_in strict state last (mark ∷ rest) ≡ Err (Ends state mark)
ends_at strict state mark rest none last = rw none refl

stops_mark : (strict : Bool) (state : State) (old : Cursor) (mark : Mark) (rest : List Mark) → marks_left old ≡ mark ∷ rest → move state mark.symbol ≡ None → is_whole state ≡ false → EndsIn strict state old mark.place
stops_mark strict state old mark rest marks none part = record {
  stop = state;
  mark = mark;
  part = part;
  here = refl;
  ends = λ last. ap (run_in strict state last) marks ∙ ends_at strict state mark rest none last;
}

pub stops_none : (strict : Bool) (state : State) (old : Cursor) (fault : SchemaFault) → is_whole state ≡ false → LacksToken old fault → Stops strict state old fault
stops_none strict state old (faults.Text place) part is =
    subst (λ (p : ℕ). EndsIn strict state old p) is.here (stops_mark strict state old is.mark [] is.marks (no_token_moves state is.mark.symbol is.none) part)
stops_none strict state old (faults.Limit what place) part is = absurd is
stops_none strict state old (faults.Twice place) part is = absurd is
stops_none strict state old faults.OutOfMemory part is = absurd is

pub stops_token : (strict : Bool) (state : State) (old new : Cursor) (token : Token) → is_whole state ≡ false → IsNext old token new → move state (symbol_at new.text token) ≡ None → Stops strict state old (faults.Text token.start)
stops_token strict state old new token part is none = stops_mark strict state old (mark_at new.text token) (marks_left new) is.marks none part

pub passes_at : (strict : Bool) (state next : State) (mark : Mark) (rest : List Mark) (what : Passed) → move state mark.symbol ≡ Some next → judged strict (role_at state mark.symbol mark.place) mark.symbol ≡ Some what → (last : ℕ) → run_in strict state last (mark ∷ rest) ≡ Err (Passes what mark.place)
passes_at strict state next mark rest what moves passes last = rw (moves, passes) refl

pub limit_token : (strict : Bool) (state next : State) (old new : Cursor) (token : Token) (what : LimitKind) → IsNext old token new → move state (symbol_at new.text token) ≡ Some next
    → judged strict (role_at state (symbol_at new.text token) token.start) (symbol_at new.text token) ≡ Some (LimitOf what) → Stops strict state old (faults.Limit what token.start)
limit_token strict state next old new token what is moves passes last =
    ap (run_in strict state last) is.marks ∙ passes_at strict state next (mark_at new.text token) (marks_left new) (LimitOf what) moves passes last

pub twice_token : (strict : Bool) (state next : State) (old new : Cursor) (token : Token) → IsNext old token new → move state (symbol_at new.text token) ≡ Some next
    → judged strict (role_at state (symbol_at new.text token) token.start) (symbol_at new.text token) ≡ Some Again → Stops strict state old (faults.Twice token.start)
twice_token strict state next old new token is moves passes last =
    ap (run_in strict state last) is.marks ∙ passes_at strict state next (mark_at new.text token) (marks_left new) Again moves passes last

-- ---- one after another

data Came (strict : Bool) (state : State) (last : ℕ) (mark : Mark) : Type 0 where
  On : (next : State) → ((rest : List Mark) → run_in strict state last (mark ∷ rest) ≡ run_in strict next mark.place rest) → Came strict state last mark
  Off : (stop : Stop State Passed) → ((rest : List Mark) → run_in strict state last (mark ∷ rest) ≡ Err stop) → Came strict state last mark

came : (strict : Bool) (state : State) (last : ℕ) (mark : Mark) → Came strict state last mark
came strict state last mark = go (move state mark.symbol) (judged strict (role_at state mark.symbol mark.place) mark.symbol) refl refl
  where
    go : (to : Option State) (what : Option Passed) → move state mark.symbol ≡ to → judged strict (role_at state mark.symbol mark.place) mark.symbol ≡ what → Came strict state last mark
    go None what e f = Off (Ends state mark) (λ rest. rw e refl)
    go (Some next) None e f = On next (λ rest. rw (e, f) refl)
    go (Some next) (Some what) e f = Off (Passes what mark.place) (λ rest. rw (e, f) refl)

run_over : (strict : Bool) (state to : State) (last : ℕ) (marks rest : List Mark) → run_in strict state last marks ≡ Ok to → run_in strict state last (marks ++ rest) ≡ run_in strict to (last_of last marks) rest
run_over strict state to last [] rest e = let same : state ≡ to = cc e in ap (λ (s : State). run_in strict s last rest) same
run_over strict state to last (mark ∷ marks) rest e =
    elim (came strict state last mark) [
      | On next is ↦ is (marks ++ rest) ∙ run_over strict next to mark.place marks rest (sym (is marks) ∙ e)
      | Off stop is ↦ let no_way : Err stop ≡ Ok to = sym (is marks) ∙ e in absurd cc
    ]

pub reads_none : (strict : Bool) (state : State) (cursor : Cursor) → Reads strict state cursor cursor state
reads_none strict state cursor = record {
  before = [];
  split = refl;
  runs = λ last. refl;
  text = refl;
  onward = omega arith;
  over = inl refl;
}

pub reads_then : (strict : Bool) (state middle to : State) (old between new : Cursor) → Reads strict state old between middle → Reads strict middle between new to → Reads strict state old new to
reads_then strict state middle to old between new one two = record {
  before = one.before ++ two.before;
  split = one.split ∙ ap (λ (ms : List Mark). one.before ++ ms) two.split ∙ sym (append_assoc one.before two.before (marks_left new));
  runs = λ last. run_over strict state middle last one.before two.before (one.runs last) ∙ two.runs (last_of last one.before);
  text = two.text ∙ one.text;
  onward = omega (arith, one.onward, two.onward);
  over = over_then old between new one.over two.over;
}

over : (strict : Bool) (state middle : State) (old between : Cursor) (answer : Result State (Stop State Passed)) → Reads strict state old between middle → ((last : ℕ) → run_in strict middle last (marks_left between) ≡ answer)
    → (last : ℕ) → run_in strict state last (marks_left old) ≡ answer
over strict state middle old between answer one answers last =
    ap (run_in strict state last) one.split ∙ run_over strict state middle last one.before (marks_left between) (one.runs last) ∙ answers (last_of last one.before)

pub stops_then : (strict : Bool) (state middle : State) (old between : Cursor) (fault : SchemaFault) → Reads strict state old between middle → Stops strict middle between fault → Stops strict state old fault
stops_then strict state middle old between (faults.Text place) one stops = record {
  stop = stops.stop;
  mark = stops.mark;
  part = stops.part;
  here = stops.here;
  ends = over strict state middle old between (Err (Ends stops.stop stops.mark)) one stops.ends;
}
stops_then strict state middle old between (faults.Limit what place) one stops = over strict state middle old between (Err (Passes (LimitOf what) place)) one stops
stops_then strict state middle old between (faults.Twice place) one stops = over strict state middle old between (Err (Passes Again place)) one stops
stops_then strict state middle old between faults.OutOfMemory one stops = absurd stops

-- a further mark first
pub reads_behind : (strict : Bool) (state next to : State) (old between new : Cursor) (mark : Mark) → marks_left old ≡ mark ∷ marks_left between → between.text ≡ old.text → old.place ≤ between.place → IsBehindToken old between
    → move state mark.symbol ≡ Some next → judged strict (role_at state mark.symbol mark.place) mark.symbol ≡ None → Reads strict next between new to → Reads strict state old new to
reads_behind strict state next to old between new mark marks text onward behind moves free rest =
    let one : Reads strict state old between next = record { before = mark ∷ []; split = marks; runs = one_read strict state next mark moves free; text = text; onward = onward; over = inr behind } in
    reads_then strict state next to old between new one rest

pub stops_behind : (strict : Bool) (state next : State) (old between : Cursor) (fault : SchemaFault) (mark : Mark) → marks_left old ≡ mark ∷ marks_left between → between.text ≡ old.text → old.place ≤ between.place → IsBehindToken old between
    → move state mark.symbol ≡ Some next → judged strict (role_at state mark.symbol mark.place) mark.symbol ≡ None → Stops strict next between fault → Stops strict state old fault
stops_behind strict state next old between fault mark marks text onward behind moves free stops =
    let one : Reads strict state old between next = record { before = mark ∷ []; split = marks; runs = one_read strict state next mark moves free; text = text; onward = onward; over = inr behind } in
    stops_then strict state next old between fault one stops

pub or_lost : (strict : Bool) (state : State) (old : Cursor) (fault : SchemaFault) → Stops strict state old fault → StopsOrLost strict state old fault
or_lost strict state old (faults.Text place) stops = stops
or_lost strict state old (faults.Limit what place) stops = stops
or_lost strict state old (faults.Twice place) stops = stops
or_lost strict state old faults.OutOfMemory stops = tt

pub lost_then : (strict : Bool) (state middle : State) (old between : Cursor) (fault : SchemaFault) → Reads strict state old between middle → StopsOrLost strict middle between fault → StopsOrLost strict state old fault
lost_then strict state middle old between (faults.Text place) one stops = stops_then strict state middle old between (faults.Text place) one stops
lost_then strict state middle old between (faults.Limit what place) one stops = stops_then strict state middle old between (faults.Limit what place) one stops
lost_then strict state middle old between (faults.Twice place) one stops = stops_then strict state middle old between (faults.Twice place) one stops
lost_then strict state middle old between faults.OutOfMemory one stops = tt

-- ---- where the lexer stands

pub embed_next : (old new : Cursor) (token : Token) → IsNext old token new → symbol_at new.text token ≡ Word (codes "embed") → IsEmbedNext old new token.start
embed_next old new token is word = record {
  marks = is.marks ∙ ap (λ (s : Symbol). let mark : Mark = record { symbol = s; place = token.start } in mark ∷ marks_left new) word;
  text = is.text;
  onward = is.onward;
  within = is.within;
  behind = behind_next old new token is;
}

-- from one state to another the lexer goes past a token at least
pub reads_token_behind : (strict : Bool) (state to : State) (old new : Cursor) → state ≢ to → Reads strict state old new to → IsBehindToken old new
reads_token_behind strict state to old new other reads =
    behind_marks old new reads.before reads.split reads.over (λ empty.
    let stays : Ok state ≡ Ok to = subst (λ (marks : List Mark). run_in strict state 0 marks ≡ Ok to) empty (reads.runs 0) in
    other cc)

-- ---- what is said of an answer

pub if_ok : {T E : Type 0} {P Q : T → Type 0} (r : Result T E) → ((x : T) → P x → Q x) → IfOk r P → IfOk r Q
if_ok (Ok x) f p = f x p
if_ok (Err e) f p = p

pub if_err : {T E : Type 0} {P Q : E → Type 0} (r : Result T E) → ((e : E) → P e → Q e) → IfErr r P → IfErr r Q
if_err (Ok x) f p = p
if_err (Err e) f p = f e p

pub known_self : (strict : Bool) (known : List Embed) → IsKnown strict known known
known_self true known = refl
known_self false known = tt
