-- What reading a schema to its end answers: its form, or the first fault by the grammar.
use Rattle.std.proofs.Common.{◌≡◌, ℕ, true, false, List, Result, Ok, Err, refl, sym, ap, subst, ◌∙◌}
use Rattle.gm_model.specs.declared.limit.LimitKind.{LimitKind}
use Rattle.gm_model.specs.declared.schema.Embed.{Embed}
use Rattle.gm_model.specs.declared.schema.Schema.{Schema}
use Rattle.gm_model.specs.Symbols.{Mark}
use Rattle.gm_model.specs.Reading.{TextEndsAt}
use Rattle.gm_text.specs.inner.Cursor.{Cursor}
use Rattle.gm_text.specs.inner.Machine.{Stop, Ends, Passes, run}
use Rattle.gm_text.specs.SchemaText.{LimitOf, Again, limit_of, passed_of, IsSentence}
use Rattle.gm_text.specs.inner.SchemaReading.{State, AtDim, AtEmbeds, role_at, move, never}
use Rattle.gm_text.specs.inner.SchemaAnswers.{marks_left, judged, run_in, Reads, EndsIn, Stops, StopsOrLost, EndsEmbeds, SkipsSchema, IsSchemaRead, IsSchemaSkipped, IsSchemaFault, IsSkipFault}
use Rattle.gm_text.specs.declared.schema_fault.SchemaFault.{SchemaFault}
use Rattle.gm_text.specs.declared.schema_fault.SchemaFault.TheVariants as faults
use Rattle.gm_text.proofs.Machine.{stop_as, run_as}
use Rattle.gm_text.proofs.SchemaStanding.{limit_placeless, passed_placeless, ends_stand, passes_stand, form_stands}

-- ---- where a second declaration is judged

read_text : (old : Cursor) (place : ℕ) → EndsIn true AtDim old place → IsSchemaFault (marks_left old) (faults.Text place)
read_text old place ends = subst (λ (p : ℕ). TextEndsAt IsSentence passed_of (marks_left old) p) ends.here (ends_stand passed_of passed_placeless (marks_left old) ends.stop ends.mark (ends.ends 0) ends.part)

pub read_fault : (old : Cursor) (fault : SchemaFault) → StopsOrLost true AtDim old fault → IsSchemaFault (marks_left old) fault
read_fault old (faults.Text place) stops = read_text old place stops
read_fault old (faults.Limit what place) stops = passes_stand passed_of passed_placeless (marks_left old) (LimitOf what) place (stops 0)
read_fault old (faults.Twice place) stops = passes_stand passed_of passed_placeless (marks_left old) Again place (stops 0)
read_fault old faults.OutOfMemory stops = tt

pub read_stands : (old new : Cursor) (n : ℕ) (embeds : List Embed) → Reads true AtDim old new (AtEmbeds n embeds) → EndsEmbeds new → IsSchemaRead old new (record { dim = n; embeds = embeds })
read_stands old new n embeds reads (next, others, behind, ends) =
    let is = form_stands passed_of passed_placeless (marks_left old) reads.before (marks_left new) next others n embeds (reads.runs 0) reads.split behind ends in
    record { form = is.form; stands = is.stands; means = is.means }

-- ---- where limits alone are

abbrev pub run_limits : State → ℕ → List Mark → Result State (Stop State LimitKind)
run_limits state last marks = run limit_of never role_at move state last marks

pub limits_run : (state : State) (last : ℕ) (marks : List Mark) → run_in false state last marks ≡ stop_as LimitOf (run_limits state last marks)
limits_run state last marks = run_as LimitOf limit_of (judged false) (λ role symbol. refl) never role_at move state last marks

pub limits_ok : (answer : Result State (Stop State LimitKind)) (to : State) → stop_as LimitOf answer ≡ Ok to → answer ≡ Ok to
limits_ok (Ok state) to e = let same : state ≡ to = cc e in ap Ok same
limits_ok (Err (Ends state mark)) to e = absurd cc
limits_ok (Err (Passes what place)) to e = absurd cc

pub limits_end : (answer : Result State (Stop State LimitKind)) (stop : State) (at : Mark) → stop_as LimitOf answer ≡ Err (Ends stop at) → answer ≡ Err (Ends stop at)
limits_end (Ok state) stop at e = absurd cc
limits_end (Err (Ends state mark)) stop at e =
    let s : state ≡ stop = cc e in
    let m : mark ≡ at = cc e in
    ap (λ (x : State). Err (Ends x mark)) s ∙ ap (λ (x : Mark). Err (Ends stop x)) m
limits_end (Err (Passes what place)) stop at e = absurd cc

pub limits_pass : (answer : Result State (Stop State LimitKind)) (what : LimitKind) (place : ℕ) → stop_as LimitOf answer ≡ Err (Passes (LimitOf what) place) → answer ≡ Err (Passes what place)
limits_pass (Ok state) what place e = absurd cc
limits_pass (Err (Ends state mark)) what place e = absurd cc
limits_pass (Err (Passes some at)) what place e =
    let w : some ≡ what = cc e in
    let p : at ≡ place = cc e in
    ap (λ (x : LimitKind). Err (Passes x at)) w ∙ ap (λ (x : ℕ). Err (Passes what x)) p

pub never_again : (answer : Result State (Stop State LimitKind)) (place : ℕ) → stop_as LimitOf answer ≡ Err (Passes Again place) → ⊥
never_again (Ok state) place e = absurd cc
never_again (Err (Ends state mark)) place e = absurd cc
never_again (Err (Passes some at)) place e = absurd cc

skip_text : (old : Cursor) (place : ℕ) → EndsIn false AtDim old place → IsSkipFault (marks_left old) (faults.Text place)
skip_text old place ends =
    subst (λ (p : ℕ). TextEndsAt IsSentence limit_of (marks_left old) p) ends.here
    (ends_stand limit_of limit_placeless (marks_left old) ends.stop ends.mark (limits_end (run_limits AtDim 0 (marks_left old)) ends.stop ends.mark (sym (limits_run AtDim 0 (marks_left old)) ∙ ends.ends 0)) ends.part)

pub skip_fault : (old : Cursor) (fault : SchemaFault) → Stops false AtDim old fault → IsSkipFault (marks_left old) fault
skip_fault old (faults.Text place) stops = skip_text old place stops
skip_fault old (faults.Limit what place) stops = passes_stand limit_of limit_placeless (marks_left old) what place (limits_pass (run_limits AtDim 0 (marks_left old)) what place (sym (limits_run AtDim 0 (marks_left old)) ∙ stops 0))
skip_fault old (faults.Twice place) stops = never_again (run_limits AtDim 0 (marks_left old)) place (sym (limits_run AtDim 0 (marks_left old)) ∙ stops 0)
skip_fault old faults.OutOfMemory stops = stops

pub skip_stands : (old new : Cursor) (n : ℕ) → SkipsSchema old new n → EndsEmbeds new → IsSchemaSkipped old new n
skip_stands old new n (declared, reads) (next, others, behind, ends) =
    let is = form_stands limit_of limit_placeless (marks_left old) reads.before (marks_left new) next others n declared (limits_ok (run_limits AtDim 0 reads.before) (AtEmbeds n declared) (sym (limits_run AtDim 0 reads.before) ∙ reads.runs 0)) reads.split behind ends in
    record { form = is.form; stands = is.stands; means = ap (λ (s : Schema). s.dim) is.means }
