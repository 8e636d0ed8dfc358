-- A schema stands at each place of a text, or the marks there have a first fault.
use Rattle.std.proofs.Common.{◌≡◌, ◌≢◌, ◌⊎◌, ℕ, Bool, true, false, List, ◌++◌, Option, Some, None, Result, Ok, Err, inl, inr, refl, sym, ap, subst, ◌∙◌, codes}
use Rattle.gm_model.specs.declared.schema.Embed.{Embed}
use Rattle.gm_model.specs.declared.schema.Schema.{Schema}
use Rattle.gm_model.specs.Symbols.{Symbol, Word, Mark}
use Rattle.gm_model.specs.Reading.{TextEndsAt, LimitStandsAt}
use Rattle.gm_text.specs.inner.Cursor.{Cursor}
use Rattle.gm_text.specs.inner.Machine.{Stop, Ends, Passes, run}
use Rattle.gm_text.specs.SchemaText.{Role, LimitOf, Again, limit_of, passed_of, IsSentence}
use Rattle.gm_text.specs.inner.SchemaReading.{State, AtDim, AtTop, AtEmbeds, AtName, AtOrbit, AtLabel, AtKind, role_at, move, is_whole, never}
use Rattle.gm_text.specs.inner.SchemaAnswers.{IsNoToken, AtStray, AtEnd, marks_left, IsSchemaRead, IsSchemaSkipped, IsSchemaFault, IsSkipFault}
use Rattle.gm_text.specs.declared.schema_fault.SchemaFault.{SchemaFault}
use Rattle.gm_text.specs.declared.schema_fault.SchemaFault.TheVariants as faults
use Rattle.gm_text.proofs.AtLeast.{cut, behind_all}
use Rattle.gm_text.proofs.SchemaStanding.{IsPlaceless, limit_placeless, passed_placeless, IsStanding, ends_stand, passes_stand, form_stands}
use Rattle.gm_text.proofs.TextMarks.{left_end, place_of_mark}

-- no schema goes on with what is no token
pub stands_still : (state : State) (symbol : Symbol) → IsNoToken symbol → move state symbol ≡ None
stands_still AtDim symbol AtStray = refl
stands_still AtDim symbol AtEnd = refl
stands_still AtTop symbol AtStray = refl
stands_still AtTop symbol AtEnd = refl
stands_still (AtEmbeds n declared) symbol AtStray = refl
stands_still (AtEmbeds n declared) symbol AtEnd = refl
stands_still (AtName n declared) symbol AtStray = refl
stands_still (AtName n declared) symbol AtEnd = refl
stands_still (AtOrbit n declared name) symbol AtStray = refl
stands_still (AtOrbit n declared name) symbol AtEnd = refl
stands_still (AtLabel n declared name mask) symbol AtStray = refl
stands_still (AtLabel n declared name mask) symbol AtEnd = refl
stands_still (AtKind n declared name mask) symbol AtStray = refl
stands_still (AtKind n declared name mask) symbol AtEnd = refl

none_moves : (state next : State) (symbol : Symbol) → IsNoToken symbol → move state symbol ≡ Some next → ⊥
none_moves state next symbol none moves = let no_way : Some next ≡ None = sym moves ∙ stands_still state symbol none in absurd cc

-- an embedding would go on with its word
no_embed : (n : ℕ) (declared : List Embed) (symbol : Symbol) → move (AtEmbeds n declared) symbol ≡ None → symbol ≢ Word (codes "embed")
no_embed n declared symbol none word = let some : Some (AtName n declared) ≡ None = ap (λ (s : Symbol). move (AtEmbeds n declared) s) (sym word) ∙ none in absurd cc

whole_at : (state : State) → is_whole state ≡ true → (n : ℕ) × (declared : List Embed) × (state ≡ AtEmbeds n declared)
whole_at AtDim whole = absurd cc
whole_at AtTop whole = absurd cc
whole_at (AtEmbeds n declared) whole = (n, declared, refl)
whole_at (AtName n declared) whole = absurd cc
whole_at (AtOrbit n declared name) whole = absurd cc
whole_at (AtLabel n declared name mask) whole = absurd cc
whole_at (AtKind n declared name mask) whole = absurd cc

module _ {What : Type 0} (passed : Role → Symbol → Option What) (placeless : IsPlaceless passed) (cursor : Cursor) where
  data IsAnswered : Type 0 where
    Standing : (new : Cursor) (schema : Schema) → IsStanding passed placeless (marks_left cursor) (marks_left new) schema → IsAnswered
    Ended : (place : ℕ) → TextEndsAt IsSentence passed (marks_left cursor) place → IsAnswered
    Stopped : (what : What) (place : ℕ) → LimitStandsAt IsSentence passed never (marks_left cursor) what place → IsAnswered

  abbrev Run : Result State (Stop State What)
  Run = run passed never role_at move AtDim 0 (marks_left cursor)

  at_end : (stop : State) (mark : Mark) → Run ≡ Err (Ends stop mark) → (whole : Bool) → is_whole stop ≡ whole → IsAnswered
  at_end stop mark e false part = Ended mark.place (ends_stand passed placeless (marks_left cursor) stop mark e part)
  at_end stop mark e true whole =
      let (n, declared, at) = whole_at stop whole in
      let here = cut passed never role_at move AtDim stop 0 (marks_left cursor) mark e in
      let (new, left) = place_of_mark cursor here.before mark here.after here.split in
      let runs : run passed never role_at move AtDim 0 here.before ≡ Ok (AtEmbeds n declared) = here.runs ∙ ap Ok at in
      let none : move (AtEmbeds n declared) mark.symbol ≡ None = subst (λ (s : State). move s mark.symbol ≡ None) at here.refused in
      let split : marks_left cursor ≡ here.before ++ marks_left new = here.split ∙ ap (λ (ms : List Mark). here.before ++ ms) (sym left) in
      Standing new (record { dim = n; embeds = declared }) (form_stands passed placeless (marks_left cursor) here.before (marks_left new) mark here.after n declared runs split left (no_embed n declared mark.symbol none))

  answered : IsAnswered
  answered = go Run refl
    where
      go : (answer : Result State (Stop State What)) → Run ≡ answer → IsAnswered
      go (Ok to) e = absurd (behind_all passed never role_at move (λ s. ⊥) none_moves AtDim to 0 (marks_left cursor) (left_end cursor) e)
      go (Err (Ends stop mark)) e = at_end stop mark e (is_whole stop) refl
      go (Err (Passes what place)) e = Stopped what place (passes_stand passed placeless (marks_left cursor) what place e)

pub read_or_fault : (old : Cursor) → ((new : Cursor) × (schema : Schema) × IsSchemaRead old new schema) ⊎ ((fault : SchemaFault) × (fault ≢ faults.OutOfMemory) × IsSchemaFault (marks_left old) fault)
read_or_fault old = go (answered passed_of passed_placeless old)
  where
    go : IsAnswered passed_of passed_placeless old → ((new : Cursor) × (schema : Schema) × IsSchemaRead old new schema) ⊎ ((fault : SchemaFault) × (fault ≢ faults.OutOfMemory) × IsSchemaFault (marks_left old) fault)
    go (Standing new schema is) = inl (new, schema, record { form = is.form; stands = is.stands; means = is.means })
    go (Ended place ends) = inr (faults.Text place, (λ e. absurd cc), ends)
    go (Stopped (LimitOf what) place passes) = inr (faults.Limit what place, (λ e. absurd cc), passes)
    go (Stopped Again place passes) = inr (faults.Twice place, (λ e. absurd cc), passes)

pub skipped_or_fault : (old : Cursor) → ((new : Cursor) × (n : ℕ) × IsSchemaSkipped old new n) ⊎ ((fault : SchemaFault) × IsSkipFault (marks_left old) fault)
skipped_or_fault old = go (answered limit_of limit_placeless old)
  where
    go : IsAnswered limit_of limit_placeless old → ((new : Cursor) × (n : ℕ) × IsSchemaSkipped old new n) ⊎ ((fault : SchemaFault) × IsSkipFault (marks_left old) fault)
    go (Standing new schema is) = inl (new, schema.dim, record { form = is.form; stands = is.stands; means = ap (λ (s : Schema). s.dim) is.means })
    go (Ended place ends) = inr (faults.Text place, ends)
    go (Stopped what place passes) = inr (faults.Limit what place, passes)
