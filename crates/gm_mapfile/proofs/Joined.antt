-- How readings are put together: over what was read, on to what is read or to the first fault.
use Rattle.std.proofs.Common.{◌≡◌, ℕ, ℤ, List, [], ◌∷◌, ◌++◌, Option, Some, None, Result, Ok, Err, refl, sym, ap, ◌∙◌, append_assoc}
use Rattle.std.specs.Prelude.{IfOk, IfErr, OnOk}
use Rattle.std.proofs.lemmas.List.{append-nil}
use Rattle.gm_model.specs.Symbols.{Symbol, Mark}
use Rattle.gm_text.specs.inner.Cursor.{Cursor}
use Rattle.gm_text.specs.inner.Machine.{Stop, Ends, Passes, run}
use Rattle.gm_text.specs.inner.Nested as nested
use Rattle.gm_text.specs.inner.SchemaAnswers.{marks_left}
use Rattle.gm_text.specs.SchemaText.{Passed}
use Rattle.gm_text.specs.declared.schema_fault.SchemaFault.{SchemaFault}
use Rattle.gm_text.specs.declared.schema_fault.SchemaFault.TheVariants as faults
use Rattle.gm_mapfile.specs.MapText.{passed_of}
use Rattle.gm_mapfile.specs.MapReading.{Whole, Want, nesting, never, run_from, Reads, Stops, among, Takes, Misses}

abbrev pub move_at : Whole → Symbol → Option Whole
move_at state symbol = nested.move nesting state symbol

-- what a mark passes
abbrev pub limit_at : Whole → Symbol → ℕ → Option Passed
limit_at state symbol place = passed_of (nested.role_at nesting state symbol place) symbol

-- behind a mark at the place
abbrev pub run_behind : ℕ → Whole → List Mark → Result Whole (Stop Whole Passed)
run_behind last state marks = run passed_of never (nested.role_at nesting) (nested.move nesting) state last marks

-- where the mark before stands has no part in it
pub behind_any : (last : ℕ) (state : Whole) (marks : List Mark) → run_behind last state marks ≡ run_from state marks
behind_any last state [] = refl
behind_any last state (mark ∷ marks) = refl

-- ---- one mark

pub data Came (state : Whole) (mark : Mark) : Type 0 where
  Ended : move_at state mark.symbol ≡ None → ((rest : List Mark) → run_from state (mark ∷ rest) ≡ Err (Ends state mark)) → Came state mark
  Passed_by : (next : Whole) (what : Passed) → move_at state mark.symbol ≡ Some next → limit_at state mark.symbol mark.place ≡ Some what → ((rest : List Mark) → run_from state (mark ∷ rest) ≡ Err (Passes what mark.place)) → Came state mark
  Went : (next : Whole) → move_at state mark.symbol ≡ Some next → limit_at state mark.symbol mark.place ≡ None → ((rest : List Mark) → run_from state (mark ∷ rest) ≡ run_from next rest) → Came state mark

pub went : (state next : Whole) (mark : Mark) → move_at state mark.symbol ≡ Some next → limit_at state mark.symbol mark.place ≡ None → (rest : List Mark) → run_from state (mark ∷ rest) ≡ run_from next rest
went state next mark moves free rest = rw (moves, free) (behind_any mark.place next rest)

pub passed_by : (state next : Whole) (what : Passed) (mark : Mark) → move_at state mark.symbol ≡ Some next → limit_at state mark.symbol mark.place ≡ Some what → (rest : List Mark) → run_from state (mark ∷ rest) ≡ Err (Passes what mark.place)
passed_by state next what mark moves limit rest = rw (moves, limit) refl

pub ended : (state : Whole) (mark : Mark) → move_at state mark.symbol ≡ None → (rest : List Mark) → run_from state (mark ∷ rest) ≡ Err (Ends state mark)
ended state mark none rest = rw none refl

pub came : (state : Whole) (mark : Mark) → Came state mark
came state mark = go (move_at state mark.symbol) (limit_at state mark.symbol mark.place) refl refl
  where
    go : (to : Option Whole) (what : Option Passed) → move_at state mark.symbol ≡ to → limit_at state mark.symbol mark.place ≡ what → Came state mark
    go None what e f = Ended e (ended state mark e)
    go (Some next) (Some what) e f = Passed_by next what e f (passed_by state next what mark e f)
    go (Some next) None e f = Went next e f (went state next mark e f)

-- ---- one after another

pub run_over : (state to : Whole) (marks rest : List Mark) → run_from state marks ≡ Ok to → run_from state (marks ++ rest) ≡ run_from to rest
run_over state to [] rest e = let same : state ≡ to = cc e in ap (λ (s : Whole). run_from s rest) same
run_over state to (mark ∷ marks) rest e =
    elim (came state mark) [
      | Ended none is ↦ let no_way : Err (Ends state mark) ≡ Ok to = sym (is marks) ∙ e in absurd cc
      | Passed_by next what moves limit is ↦ let no_way : Err (Passes what mark.place) ≡ Ok to = sym (is marks) ∙ e in absurd cc
      | Went next moves free is ↦ is (marks ++ rest) ∙ run_over next to marks rest (sym (is marks) ∙ e)
    ]

pub reads_nothing : (state : Whole) (old : Cursor) → Reads state old old state
reads_nothing state old = record { before = []; split = refl; runs = refl }

pub reads_then : (state middle to : Whole) (old between new : Cursor) → Reads state old between middle → Reads middle between new to → Reads state old new to
reads_then state middle to old between new one two = record {
  before = one.before ++ two.before;
  split = one.split ∙ ap (λ (ms : List Mark). one.before ++ ms) two.split ∙ sym (append_assoc one.before two.before (marks_left new));
  runs = run_over state middle one.before two.before one.runs ∙ two.runs;
}

over : (state middle : Whole) (old between : Cursor) → Reads state old between middle → run_from state (marks_left old) ≡ run_from middle (marks_left between)
over state middle old between one = ap (run_from state) one.split ∙ run_over state middle one.before (marks_left between) one.runs

pub stops_then : (state middle : Whole) (old between : Cursor) (fault : SchemaFault) → Reads state old between middle → Stops middle between fault → Stops state old fault
stops_then state middle old between (faults.Text place) one (stop, mark, here, ends) = (stop, mark, here, over state middle old between one ∙ ends)
stops_then state middle old between (faults.Limit what place) one stops = over state middle old between one ∙ stops
stops_then state middle old between (faults.Twice place) one stops = over state middle old between one ∙ stops
stops_then state middle old between faults.OutOfMemory one stops = tt

-- ---- what is wanted of darts

pub takes_nothing : (old : Cursor) → Takes [] [] old old
takes_nothing old head taken wants = rw (append-nil taken) (reads_nothing (among head taken wants) old)

pub takes_then : (ws vs : List Want) (xs ys : List ℤ) (old between new : Cursor) → Takes ws xs old between → Takes vs ys between new → Takes (ws ++ vs) (xs ++ ys) old new
takes_then ws vs xs ys old between new one two head taken wants =
    rw (append_assoc ws vs wants, ← append_assoc taken xs ys)
    (reads_then (among head taken (ws ++ (vs ++ wants))) (among head (taken ++ xs) (vs ++ wants)) (among head ((taken ++ xs) ++ ys) wants) old between new (one head taken (vs ++ wants)) (two head (taken ++ xs) wants))

pub misses_first : (ws vs : List Want) (old : Cursor) (fault : SchemaFault) → Misses ws old fault → Misses (ws ++ vs) old fault
misses_first ws vs old fault one head taken wants = rw (append_assoc ws vs wants) (one head taken (vs ++ wants))

pub misses_then : (ws vs : List Want) (xs : List ℤ) (old between : Cursor) (fault : SchemaFault) → Takes ws xs old between → Misses vs between fault → Misses (ws ++ vs) old fault
misses_then ws vs xs old between fault one two head taken wants =
    rw (append_assoc ws vs wants) (stops_then (among head taken (ws ++ (vs ++ wants))) (among head (taken ++ xs) (vs ++ wants)) old between fault (one head taken (vs ++ wants)) (two head (taken ++ xs) wants))

-- ---- what is said of an answer

pub on_ok : {T E : Type 0} {P : T → Type 0} {Q : Type 0} (r : Result T E) → ((x : T) → P x → Q) → IfOk r P → OnOk r Q
on_ok (Ok x) f p = f x p
on_ok (Err e) f p = p

pub ok_more : {T E : Type 0} {P Q : Type 0} (r : Result T E) → (P → Q) → OnOk r P → OnOk r Q
ok_more (Ok x) f p = f p
ok_more (Err e) f p = p

pub if_err : {T E : Type 0} {P Q : E → Type 0} (r : Result T E) → ((e : E) → P e → Q e) → IfErr r P → IfErr r Q
if_err (Ok x) f p = p
if_err (Err e) f p = f e p

pub if_ok_both : {T E : Type 0} {P Q S : T → Type 0} (r : Result T E) → ((x : T) → P x → Q x → S x) → IfOk r P → IfOk r Q → IfOk r S
if_ok_both (Ok x) f p q = f x p q
if_ok_both (Err e) f p q = p
