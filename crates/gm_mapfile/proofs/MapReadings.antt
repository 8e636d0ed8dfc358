-- A reading that came to the end of a text is its listing, and one that stopped names the text's first fault.
use Rattle.std.proofs.Common.{◌≡◌, ℕ, ℤ, List, [], ◌∷◌, ◌++◌, Option, Err, refl, sym, ap, subst, ◌∙◌}
use Rattle.std.proofs.lemmas.List.{map-append}
use Rattle.std.specs.List.{AllByRecursion}
use Rattle.gm_model.specs.declared.schema.Schema.{Schema}
use Rattle.gm_model.specs.declared.value.Value.{Value}
use Rattle.gm_model.specs.Maps.{IsSchema}
use Rattle.gm_model.specs.Symbols.{Symbol, Mark, symbols, marks_of}
use Rattle.gm_model.specs.Reading.{Part, TextEndsAt, LimitStandsAt, symbols_in, the_end}
use Rattle.gm_text.specs.inner.Machine.{Passes}
use Rattle.gm_text.specs.inner.Nested.{Outside}
use Rattle.gm_text.specs.inner.Nested as nested
use Rattle.gm_text.specs.SchemaText.{Passed, LimitOf, Again, schema_of}
use Rattle.gm_text.specs.declared.schema_fault.SchemaFault.{SchemaFault}
use Rattle.gm_text.specs.declared.schema_fault.SchemaFault.TheVariants as faults
use Rattle.gm_text.proofs.Machine.{run_reads, run_ends, run_passes, along_leads, along_spelled, ended_is, passing_is}
use Rattle.gm_mapfile.specs.inner.Draft.{version_in, IsDraft, IsFaultIn}
use Rattle.gm_mapfile.specs.MapText.{Role, Fixed, passed_of, spelling, IsSentence, IsListed}
use Rattle.gm_mapfile.proofs.Zipped.{AreRows}
use Rattle.gm_mapfile.specs.MapReading.{Head, Done, Whole, nesting, never, start, run_from, Stops, among, all_numbers, IsWhole, ReadsMap}
use Rattle.gm_mapfile.proofs.MapLed.{Led, all_form_numbers}
use Rattle.gm_mapfile.proofs.MapGrammar.{head_of, map_grammar}
use Rattle.gm_mapfile.proofs.MapStates.{led_to_end, alike}
use Rattle.gm_mapfile.proofs.MapRows.{declared_numbers, rows_are}
use Rattle.gm_mapfile.proofs.FormWithin.{form_good}
use Rattle.gm_mapfile.proofs.MapWithin.{AreWithin}

-- ---- the whole text

-- behind what leads so far the end is led over
ended : (head : Head) (numbers : List ℤ) (state : Whole) (parts : List (Part Role)) → Led state parts (among head numbers []) → Led state (parts ++ the_end Fixed ∷ []) (Outside Done)
ended head numbers state [] led = subst (λ (s : Whole). Led s (the_end Fixed ∷ []) (Outside Done)) (sym led) (0, Outside Done, refl, refl, refl)
ended head numbers state (part ∷ parts) (place, next, is, moves, led) = (place, next, is, moves, ended head numbers next parts led)

within_end : (parts : List (Part Role)) → AreWithin parts → AreWithin (parts ++ the_end Fixed ∷ [])
within_end [] within = (refl, tt)
within_end (part ∷ parts) within = (within.0, within_end parts within.1)

pub draft_listed : (text : List ℕ) (stated : Option ℕ) (schema : Schema) (numbers : List ℕ) (values : List Value) → IsSchema schema → ReadsMap (record { text = text; place = 0 }) stated schema numbers values → IsDraft text (version_in stated) schema numbers values
draft_listed text stated schema numbers values good reads =
    let head : Head = record { version = version_in stated; schema = schema } in
    let last = among head (all_numbers reads.darts) [] in
    let read = run_reads passed_of never (nested.role_at nesting) (nested.move nesting) start last 0 reads.before reads.runs in
    let parts = read.parts ++ the_end Fixed ∷ [] in
    let led : Led start read.parts last = along_leads passed_of never (nested.role_at nesting) (nested.move nesting) start last reads.before read.parts read.along in
    let front : symbols reads.before ≡ symbols_in read.parts = along_spelled passed_of never (nested.role_at nesting) (nested.move nesting) start last reads.before read.parts read.along in
    let spelled : symbols (marks_of text) ≡ symbols_in parts =
    ap symbols reads.split ∙ map-append (λ (mark : Mark). mark.symbol) reads.before (reads.end ∷ []) ∙ ap (λ (ss : List Symbol). ss ++ reads.end.symbol ∷ []) front ∙ ap (λ (s : Symbol). symbols_in read.parts ++ s ∷ []) reads.ends
    ∙ sym (map-append (λ (part : Part Role). part.symbol) read.parts (the_end Fixed ∷ [])) in
    let (form, is_form, same) = map_grammar.sentence parts (ended head (all_numbers reads.darts) start read.parts led) in
    let within : AreWithin (spelling form) = subst AreWithin same (within_end read.parts read.within) in
    let at = alike head (head_of form) (all_numbers reads.darts) (all_form_numbers form.darts) (led_to_end form read.parts (the_end Fixed) last is_form (ap symbols_in same) refl led) in
    let schema_is : schema ≡ schema_of form.schema = ap (λ (h : Head). h.schema) at.heads in
    let rows = rows_are (schema_of form.schema) (declared_numbers form.schema.embeds is_form.0) form.darts reads.darts is_form.1 (form_good form within).darts
    (subst (λ (s : Schema). AllByRecursion (IsWhole s) reads.darts) schema_is reads.whole) at.numbers_are in
    let listed : IsListed text (version_in stated) schema reads.darts = record {
      form = form;
      written = record { good = is_form; read = record { spelled = spelled ∙ ap symbols_in same; sentence = (form, is_form, refl); within = within } };
      version_is = sym (ap (λ (h : Head). h.version) at.heads);
      schema_is = schema_is;
      rows = subst (λ (s : Schema). AreRows s.embeds form.darts reads.darts) (sym schema_is) rows;
    } in
    (reads.darts, listed, reads.numbers_are, reads.values_are)

-- ---- its first fault

passes_first : (text : List ℕ) (what : Passed) (place : ℕ) → run_from start (marks_of text) ≡ Err (Passes what place) → LimitStandsAt IsSentence passed_of never (marks_of text) what place
passes_first text what place e =
    passing_is passed_of never (nested.role_at nesting) (nested.move nesting) IsSentence start (Outside Done) map_grammar (marks_of text) what place
    (run_passes passed_of never (nested.role_at nesting) (nested.move nesting) start 0 (marks_of text) what place e)

pub fault_first : (text : List ℕ) (fault : SchemaFault) → Stops start (record { text = text; place = 0 }) fault → IsFaultIn text fault
fault_first text (faults.Text place) (stop, mark, at, e) =
    subst (λ (p : ℕ). TextEndsAt IsSentence passed_of (marks_of text) p) at
    (ended_is passed_of never (nested.role_at nesting) (nested.move nesting) IsSentence start (Outside Done) map_grammar stop (marks_of text) mark
    (run_ends passed_of never (nested.role_at nesting) (nested.move nesting) start stop 0 (marks_of text) mark e))
fault_first text (faults.Limit what place) e = passes_first text (LimitOf what) place e
fault_first text (faults.Twice place) e = passes_first text Again place e
fault_first text faults.OutOfMemory e = tt
