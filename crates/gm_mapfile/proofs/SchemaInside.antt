-- A schema within a map's text: what reading it alone comes to, inside the whole, and how the whole goes on behind it.
use Rattle.std.proofs.Common.{◌≡◌, ◌≢◌, ℕ, Bool, true, false, ℤ, List, [], ◌∷◌, ◌++◌, Option, Some, None, Result, Ok, Err, refl, sym, ap, subst, ◌∙◌, codes}
use Rattle.std.specs.Str.{bytes_eq}
use Rattle.std.proofs.lemmas.List.{append-nil}
use Rattle.std.proofs.lemmas.Slice.Eq.{bytes_eq-Decides}
use Rattle.gm_model.specs.declared.schema.Embed.{Embed}
use Rattle.gm_model.specs.declared.schema.Schema.{Schema}
use Rattle.gm_model.specs.Symbols.{Symbol, Word, Numeral, Sign, Gone, Stray, End, Mark}
use Rattle.gm_text.specs.inner.Cursor.{Cursor}
use Rattle.gm_text.specs.inner.Machine.{Stop, Ends, Passes, run}
use Rattle.gm_text.specs.inner.Nested.{Inside, Outside}
use Rattle.gm_text.specs.inner.Nested as nested
use Rattle.gm_text.specs.inner.SchemaAnswers.{marks_left, run_in, StopsOrLost}
use Rattle.gm_text.specs.inner.SchemaAnswers as alone
use Rattle.gm_text.specs.inner.SchemaReading as schema
use Rattle.gm_text.specs.SchemaText.{Passed, LimitOf, Again}
use Rattle.gm_text.specs.declared.schema_fault.SchemaFault.{SchemaFault}
use Rattle.gm_text.specs.declared.schema_fault.SchemaFault.TheVariants as faults
use Rattle.gm_text.proofs.Nested.{run_inside, run_inside_ends, run_inside_passes}
use Rattle.gm_mapfile.specs.MapText.{Role, passed_of}
use Rattle.gm_mapfile.specs.MapReading.{Whole, Within, Head, Want, among, behind_schema, into_schema, move_within, nesting, never, run_from, Reads, EndsAt, Stops}
use Rattle.gm_mapfile.proofs.Joined.{move_at, limit_at, came, Ended, Passed_by, Went, went, passed_by, ended}

-- a state of the schema, in a version
abbrev pub within : Bool → schema.State → Within
within second state = record { second = second; state = state }

abbrev within_as : Bool → Result schema.State (Stop schema.State Passed) → Result Within (Stop Within Passed)
within_as second (Ok state) = Ok (within second state)
within_as second (Err (Ends state mark)) = Err (Ends (within second state) mark)
within_as second (Err (Passes what place)) = Err (Passes what place)

abbrev run_within : Within → ℕ → List Mark → Result Within (Stop Within Passed)
run_within inner last marks = run (λ role. passed_of (nesting.wrap role)) (λ role. never (nesting.wrap role)) nesting.inner_role nesting.inner_move inner last marks

-- with the version beside it the schema is read as alone
runs_within : (second : Bool) (state : schema.State) (last : ℕ) (marks : List Mark) → run_within (within second state) last marks ≡ within_as second (run_in true state last marks)
runs_within second state last [] = refl
runs_within second state last (mark ∷ marks) = go (λ next. runs_within second next mark.place marks) (schema.move state mark.symbol) (alone.judged true (schema.role_at state mark.symbol mark.place) mark.symbol) refl refl
  where
    go : ((next : schema.State) → run_within (within second next) mark.place marks ≡ within_as second (run_in true next mark.place marks)) → (to : Option schema.State) (what : Option Passed) → schema.move state mark.symbol ≡ to
        → alone.judged true (schema.role_at state mark.symbol mark.place) mark.symbol ≡ what → run_within (within second state) last (mark ∷ marks) ≡ within_as second (run_in true state last (mark ∷ marks))
    go behind None what e f = rw e refl
    go behind (Some next) None e f = rw (e, f) (behind next)
    go behind (Some next) (Some what) e f = rw (e, f) refl

module _ (second : Bool) (old : Cursor) where
  pub schema_reads : (new : Cursor) (to : schema.State) → alone.Reads true schema.AtDim old new to → Reads (into_schema second) old new (Inside (within second to))
  schema_reads new to reads = record {
    before = reads.before;
    split = reads.split;
    runs = ap (run_from (into_schema second)) (sym (append-nil reads.before)) ∙ run_inside nesting passed_of never (within second schema.AtDim) (within second to) 0 reads.before [] (runs_within second schema.AtDim 0 reads.before ∙ ap (within_as second) (reads.runs 0));
  }

  stops_inside : (fault : SchemaFault) → alone.Stops true schema.AtDim old fault → Stops (into_schema second) old fault
  stops_inside (faults.Text place) ends =
      let is = runs_within second schema.AtDim 0 (marks_left old) ∙ ap (within_as second) (ends.ends 0) in
      (Inside (within second ends.stop), ends.mark, ends.here, run_inside_ends nesting passed_of never (within second schema.AtDim) (within second ends.stop) 0 (marks_left old) ends.mark is ends.part)
  stops_inside (faults.Limit what place) passes =
      run_inside_passes nesting passed_of never (within second schema.AtDim) 0 (marks_left old) (LimitOf what) place (runs_within second schema.AtDim 0 (marks_left old) ∙ ap (within_as second) (passes 0))
  stops_inside (faults.Twice place) passes =
      run_inside_passes nesting passed_of never (within second schema.AtDim) 0 (marks_left old) Again place (runs_within second schema.AtDim 0 (marks_left old) ∙ ap (within_as second) (passes 0))
  stops_inside faults.OutOfMemory none = absurd none

  pub schema_stops : (fault : SchemaFault) → StopsOrLost true schema.AtDim old fault → Stops (into_schema second) old fault
  schema_stops (faults.Text place) stops = stops_inside (faults.Text place) stops
  schema_stops (faults.Limit what place) stops = stops_inside (faults.Limit what place) stops
  schema_stops (faults.Twice place) stops = stops_inside (faults.Twice place) stops
  schema_stops faults.OutOfMemory stops = tt

-- ---- behind the schema

no_embed : (n : ℕ) (declared : List Embed) (symbol : Symbol) → symbol ≢ Word (codes "embed") → schema.move (schema.AtEmbeds n declared) symbol ≡ None
no_embed n declared (Word w) other = go (bytes_eq w (codes "embed")) refl
  where
    go : (b : Bool) → bytes_eq w (codes "embed") ≡ b → schema.move (schema.AtEmbeds n declared) (Word w) ≡ None
    go true e = absurd (other (ap Word ((bytes_eq-Decides w (codes "embed")).0 e)))
    go false e = rw e refl
no_embed n declared (Numeral m) other = refl
no_embed n declared (Sign s) other = refl
no_embed n declared Gone other = refl
no_embed n declared Stray other = refl
no_embed n declared End other = refl

-- the state at the end of the schema
abbrev pub at_end : Bool → Schema → Whole
at_end second schema' = Inside (within second (schema.AtEmbeds schema'.dim schema'.embeds))

module _ (second : Bool) (schema' : Schema) where
  none_inside : (symbol : Symbol) → symbol ≢ Word (codes "embed") → nesting.inner_move (within second (schema.AtEmbeds schema'.dim schema'.embeds)) symbol ≡ None
  none_inside symbol other = ap (move_within second) (no_embed schema'.dim schema'.embeds symbol other)

  -- what begins no embedding has the role and leads on as behind the schema
  same_move : (symbol : Symbol) → symbol ≢ Word (codes "embed") → move_at (at_end second schema') symbol ≡ move_at (Outside (behind_schema second schema')) symbol
  same_move symbol other = rw (none_inside symbol other) refl

  same_role : (symbol : Symbol) (place : ℕ) → symbol ≢ Word (codes "embed") → nested.role_at nesting (at_end second schema') symbol place ≡ nested.role_at nesting (Outside (behind_schema second schema')) symbol place
  same_role symbol place other = rw (none_inside symbol other) refl

  -- so it comes to the same there, unless nothing goes on
  same_run : (mark : Mark) (rest : List Mark) → mark.symbol ≢ Word (codes "embed") → (move_at (Outside (behind_schema second schema')) mark.symbol ≢ None) → run_from (at_end second schema') (mark ∷ rest) ≡ run_from (Outside (behind_schema second schema')) (mark ∷ rest)
  same_run mark rest other goes =
      let role : limit_at (at_end second schema') mark.symbol mark.place ≡ limit_at (Outside (behind_schema second schema')) mark.symbol mark.place = ap (λ (r : Role). passed_of r mark.symbol) (same_role mark.symbol mark.place other) in
      elim (came (Outside (behind_schema second schema')) mark) [
        | Ended none is ↦ absurd (goes none)
        | Passed_by next what moves limit is ↦ passed_by (at_end second schema') next what mark (same_move mark.symbol other ∙ moves) (role ∙ limit) rest ∙ sym (is rest)
        | Went next moves free is ↦ went (at_end second schema') next mark (same_move mark.symbol other ∙ moves) (role ∙ free) rest ∙ sym (is rest)
      ]

  goes_if : (mark : Mark) (rest : List Mark) (answer : Result Whole (Stop Whole Passed)) → run_from (Outside (behind_schema second schema')) (mark ∷ rest) ≡ answer → answer ≢ Err (Ends (Outside (behind_schema second schema')) mark) → move_at (Outside (behind_schema second schema')) mark.symbol ≢ None
  goes_if mark rest answer is other none = other (sym is ∙ ended (Outside (behind_schema second schema')) mark none rest)

  not_among : (head : Head) (taken : List ℤ) (wants : List Want) → Outside (behind_schema second schema') ≢ among head taken wants
  not_among head taken wants = go second
    where
      go : (b : Bool) → Outside (behind_schema b schema') ≢ among head taken wants
      go true e = absurd cc
      go false e = absurd cc

  -- no embedding begins next
  module _ (old : Cursor) (next : Mark) (others : List Mark) (marks : marks_left old ≡ next ∷ others) (ends : next.symbol ≢ Word (codes "embed")) where
    pub behind_reads : (new : Cursor) (head : Head) (taken : List ℤ) (wants : List Want) → Reads (Outside (behind_schema second schema')) old new (among head taken wants) → Reads (at_end second schema') old new (among head taken wants)
    behind_reads new head taken wants reads = go reads.before reads.split reads.runs
      where
        go : (before : List Mark) → marks_left old ≡ before ++ marks_left new → run_from (Outside (behind_schema second schema')) before ≡ Ok (among head taken wants) → Reads (at_end second schema') old new (among head taken wants)
        go [] split runs = absurd (not_among head taken wants (cc runs))
        go (mark ∷ before) split runs =
            let same : mark ∷ (before ++ marks_left new) ≡ next ∷ others = sym split ∙ marks in
            let first : next ≡ mark = cc same in
            let other : mark.symbol ≢ Word (codes "embed") = subst (λ (m : Mark). m.symbol ≢ Word (codes "embed")) first ends in
            record { before = mark ∷ before; split = split; runs = same_run mark before other (goes_if mark before (Ok (among head taken wants)) runs (λ e. absurd cc)) ∙ runs }

    passes_behind : (what : Passed) (place : ℕ) → run_from (Outside (behind_schema second schema')) (marks_left old) ≡ Err (Passes what place) → run_from (at_end second schema') (marks_left old) ≡ Err (Passes what place)
    passes_behind what place passes =
        let there : run_from (Outside (behind_schema second schema')) (next ∷ others) ≡ Err (Passes what place) = ap (run_from (Outside (behind_schema second schema'))) (sym marks) ∙ passes in
        ap (run_from (at_end second schema')) marks ∙ same_run next others ends (goes_if next others (Err (Passes what place)) there (λ e. absurd cc)) ∙ there

    pub behind_stops : (fault : SchemaFault) → Stops (Outside (behind_schema second schema')) old fault → Stops (at_end second schema') old fault
    behind_stops (faults.Text place) (stop, mark, here, is) = go (move_at (Outside (behind_schema second schema')) next.symbol) refl
      where
        there : run_from (Outside (behind_schema second schema')) (next ∷ others) ≡ Err (Ends stop mark)
        there = ap (run_from (Outside (behind_schema second schema'))) (sym marks) ∙ is

        go : (to : Option Whole) → move_at (Outside (behind_schema second schema')) next.symbol ≡ to → EndsAt (at_end second schema') old place
        go None none =
            let same : Err (Ends (Outside (behind_schema second schema')) next) ≡ Err (Ends stop mark) = sym (ended (Outside (behind_schema second schema')) next none others) ∙ there in
            let at : next ≡ mark = cc same in
            (at_end second schema', next, ap (λ (m : Mark). m.place) at ∙ here, ap (run_from (at_end second schema')) marks ∙ ended (at_end second schema') next (same_move next.symbol ends ∙ none) others)
        go (Some to) moves =
            (stop, mark, here, ap (run_from (at_end second schema')) marks ∙ same_run next others ends (λ none. let both : Some to ≡ None = sym moves ∙ none in absurd cc) ∙ there)
    behind_stops (faults.Limit what place) passes = passes_behind (LimitOf what) place passes
    behind_stops (faults.Twice place) passes = passes_behind Again place passes
    behind_stops faults.OutOfMemory none = tt
