-- A run over a whole book is one over its version, its schema and its rules behind one another.
use Rattle.std.proofs.Common.{◌≡◌, ◌≢◌, ℕ, Bool, false, cond, List, ◌∷◌, Option, Some, None, Result, Ok, Err, refl, sym, ap, subst, ◌∙◌, codes}
use Rattle.gm_model.specs.declared.limit.LimitKind.{LimitKind}
use Rattle.gm_model.specs.declared.schema.Embed.{Embed}
use Rattle.gm_model.specs.Symbols.{Symbol, Word, Numeral, Sign, Gone, Stray, End, Mark}
use Rattle.gm_text.specs.inner.Cursor.{Cursor}
use Rattle.gm_text.specs.inner.Machine.{Stop, Ends, Passes, limit_place}
use Rattle.gm_text.specs.inner.Machine as machine
use Rattle.gm_text.specs.inner.Nested.{Outside, Inside}
use Rattle.gm_text.specs.inner.Nested as nested
use Rattle.gm_text.specs.inner.SchemaReading as schema
use Rattle.gm_text.specs.inner.SchemaAnswers.{marks_left, SkipsSchema, Stops}
use Rattle.gm_text.specs.declared.schema_fault.SchemaFault.{SchemaFault}
use Rattle.gm_text.specs.declared.schema_fault.SchemaFault.TheVariants as faults
use Rattle.gm_text.proofs.Carried.{carried, run_carried}
use Rattle.gm_text.proofs.Machine.{last_of}
use Rattle.gm_text.proofs.Nested.{run_inside, run_inside_ends, run_inside_passes}
use Rattle.gm_text.proofs.SchemaWhole.{run_limits, limits_run, limits_ok, limits_end, limits_pass, never_again}
use Rattle.gm_forms.specs.BookText.{Role, InSchema, limit_of, stands_before}
use Rattle.gm_forms.specs.inner.Reading.{State, AtRules, AtFormat, Header, header_at, Whole, in_rules, heading_at, book_nesting, rules_role, role_at, move, run, run_whole}
use Rattle.gm_forms.specs.inner.Standing.{IsHeaded}
use Rattle.gm_forms.proofs.SchemaNames.{no_embed}

-- ---- the version

pub head_runs : (marks rest : List Mark) (version : ℕ) → IsHeaded marks version rest → (last : ℕ) × (run_whole (Outside AtFormat) 0 marks ≡ run_whole (Inside (header_at version schema.AtDim)) last rest)
head_runs marks rest version headed = (headed.second, ap (run_whole (Outside AtFormat) 0) headed.split ∙ rw headed.known refl)

-- ---- the schema

abbrev RunInside : Header → ℕ → List Mark → Result Header (Stop Header LimitKind)
RunInside header last marks = machine.run (λ role. limit_of (InSchema role)) (λ role. stands_before (InSchema role)) book_nesting.inner_role book_nesting.inner_move header last marks

inside_run : (version : ℕ) (state : schema.State) (last : ℕ) (marks : List Mark) → RunInside (header_at version state) last marks ≡ carried (header_at version) (run_limits state last marks)
inside_run version state last marks =
    run_carried (λ role. limit_of (InSchema role)) (λ role. stands_before (InSchema role)) schema.role_at schema.move book_nesting.inner_role book_nesting.inner_move (header_at version) (λ state symbol place. refl) (λ state symbol. refl) state last marks

module _ (version : ℕ) (old : Cursor) where
  pub schema_runs : (new : Cursor) (n : ℕ) (last : ℕ) → (skips : SkipsSchema old new n) → (behind : ℕ) × (run_whole (Inside (header_at version schema.AtDim)) last (marks_left old) ≡ run_whole (Inside (header_at version (schema.AtEmbeds n skips.0))) behind (marks_left new))
  schema_runs new n last (declared, reads) =
      let to = schema.AtEmbeds n declared in
      let limits : run_limits schema.AtDim last reads.before ≡ Ok to = limits_ok (run_limits schema.AtDim last reads.before) to (sym (limits_run schema.AtDim last reads.before) ∙ reads.runs last) in
      let inside : RunInside (header_at version schema.AtDim) last reads.before ≡ Ok (header_at version to) = inside_run version schema.AtDim last reads.before ∙ ap (carried (header_at version)) limits in
      (last_of last reads.before, ap (run_whole (Inside (header_at version schema.AtDim)) last) reads.split ∙ run_inside book_nesting limit_of stands_before (header_at version schema.AtDim) (header_at version to) last reads.before (marks_left new) inside)

  -- what a run over the schema's beginning answers
  abbrev pub Answers : ℕ → SchemaFault → Type 0
  Answers last (faults.Text place) = (state : Whole) × (mark : Mark) × (run_whole (Inside (header_at version schema.AtDim)) last (marks_left old) ≡ Err (Ends state mark)) × (mark.place ≡ place)
  Answers last (faults.Limit what place) = run_whole (Inside (header_at version schema.AtDim)) last (marks_left old) ≡ Err (Passes what place)
  Answers last _ = ⊥

  pub schema_stops : (last : ℕ) (fault : SchemaFault) → Stops false schema.AtDim old fault → Answers last fault
  schema_stops last (faults.Text place) stops =
      let limits = limits_end (run_limits schema.AtDim last (marks_left old)) stops.stop stops.mark (sym (limits_run schema.AtDim last (marks_left old)) ∙ stops.ends last) in
      let inside : RunInside (header_at version schema.AtDim) last (marks_left old) ≡ Err (Ends (header_at version stops.stop) stops.mark) = inside_run version schema.AtDim last (marks_left old) ∙ ap (carried (header_at version)) limits in
      (Inside (header_at version stops.stop), stops.mark, run_inside_ends book_nesting limit_of stands_before (header_at version schema.AtDim) (header_at version stops.stop) last (marks_left old) stops.mark inside stops.part, stops.here)
  schema_stops last (faults.Limit what place) stops =
      let limits = limits_pass (run_limits schema.AtDim last (marks_left old)) what place (sym (limits_run schema.AtDim last (marks_left old)) ∙ stops last) in
      let inside : RunInside (header_at version schema.AtDim) last (marks_left old) ≡ Err (Passes what place) = inside_run version schema.AtDim last (marks_left old) ∙ ap (carried (header_at version)) limits in
      run_inside_passes book_nesting limit_of stands_before (header_at version schema.AtDim) last (marks_left old) what place inside
  schema_stops last (faults.Twice place) stops = never_again (run_limits schema.AtDim last (marks_left old)) place (sym (limits_run schema.AtDim last (marks_left old)) ∙ stops last)
  schema_stops last faults.OutOfMemory stops = stops

-- ---- the rules

-- the answers are the same, but for the state at which no book goes on
abbrev pub IsSame : Result State (Stop State LimitKind) → Result Whole (Stop Whole LimitKind) → Type 0
IsSame (Ok state) found = found ≡ Ok (in_rules state)
IsSame (Err (Ends state mark)) found = (whole : Whole) × (found ≡ Err (Ends whole mark))
IsSame (Err (Passes what place)) found = found ≡ Err (Passes what place)

same_carried : (answer : Result State (Stop State LimitKind)) → IsSame answer (carried in_rules answer)
same_carried (Ok state) = refl
same_carried (Err (Ends state mark)) = (in_rules state, refl)
same_carried (Err (Passes what place)) = refl

rules_run : (state : State) (last : ℕ) (marks : List Mark) → run_whole (in_rules state) last marks ≡ carried in_rules (run state last marks)
rules_run state last marks = run_carried limit_of stands_before role_at move (nested.role_at book_nesting) (nested.move book_nesting) in_rules (λ state symbol place. refl) (λ state symbol. refl) state last marks

-- no limit stands at the mark before
rules_here : (symbol : Symbol) → stands_before (rules_role symbol) ≡ false
rules_here (Word w) = refl
rules_here (Numeral n) = refl
rules_here (Sign s) = refl
rules_here Gone = refl
rules_here Stray = refl
rules_here End = refl

module _ (version n : ℕ) (declared : List Embed) where
  abbrev Behind : Whole
  Behind = Inside (header_at version (schema.AtEmbeds n declared))

  abbrev Rules : State
  Rules = AtRules (heading_at version n)

  pub behind_schema : (last : ℕ) (next : Mark) (others : List Mark) → next.symbol ≢ Word (codes "embed") → IsSame (run Rules 0 (next ∷ others)) (run_whole Behind last (next ∷ others))
  behind_schema last next others other =
      let none = no_embed n declared next.symbol other in
      let here = rules_here next.symbol in
      go (move Rules next.symbol) refl (limit_of (rules_role next.symbol) next.symbol) refl none here
    where
      go : (to : Option State) → move Rules next.symbol ≡ to → (limit : Option LimitKind) → limit_of (rules_role next.symbol) next.symbol ≡ limit → schema.move (schema.AtEmbeds n declared) next.symbol ≡ None → stands_before (rules_role next.symbol) ≡ false
          → IsSame (run Rules 0 (next ∷ others)) (run_whole Behind last (next ∷ others))
      go None e limit f none here = rw (e, none, e) (Behind, refl)
      go (Some to) e (Some what) f none here =
          let role : nested.role_at book_nesting Behind next.symbol next.place ≡ rules_role next.symbol = rw none refl in
          let place : limit_place limit_of stands_before (nested.role_at book_nesting) (nested.move book_nesting) Behind last next ≡ next.place = ap (λ (r : Role). cond (stands_before r) last next.place) role ∙ ap (λ (b : Bool). cond b last next.place) here in
          rw (e, none, e, f, here) (ap (λ (p : ℕ). Err (Passes what p)) place)
      go (Some to) e None f none here = rw (e, none, e, f) (subst (IsSame (run to next.place others)) (sym (rules_run to next.place others)) (same_carried (run to next.place others)))
