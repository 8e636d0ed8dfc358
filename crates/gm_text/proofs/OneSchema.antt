-- One schema at most stands before other marks, the marks have one first fault at most, and none where a schema stands.
use Rattle.std.proofs.Common.{◌≡◌, ◌≢◌, ℕ, List, [], ◌∷◌, ◌++◌, map, Option, Some, None, Result, Ok, Err, refl, sym, ap, subst, ◌∙◌, codes}
use Rattle.std.proofs.lemmas.List.{map-append}
use Rattle.gm_model.specs.declared.limit.LimitKind.{LimitKind}
use Rattle.gm_model.specs.declared.schema.Embed.{Embed}
use Rattle.gm_model.specs.declared.schema.Schema.{Schema}
use Rattle.gm_model.specs.Symbols.{Symbol, Word, Mark, symbols}
use Rattle.gm_model.specs.Reading.{Part, IsWithin, IsReadAs, TextEndsAt, LimitStandsAt, symbols_in}
use Rattle.gm_text.specs.inner.Cursor.{Cursor}
use Rattle.gm_text.specs.inner.Machine.{Stop, Ends, Passes, Leads, run}
use Rattle.gm_text.specs.inner.Nested.{Nested, Outside, Inside}
use Rattle.gm_text.specs.inner.Nested as nested
use Rattle.gm_text.specs.SchemaText.{SchemaForm, Role, Fixed, LimitOf, Again, limit_of, passed_of, embed_of, schema_of, spell, beyond, IsSentence}
use Rattle.gm_text.specs.inner.SchemaReading.{State, AtDim, AtEmbeds, role_at, move, Around, AtRest, standing, never, Stands}
use Rattle.gm_text.specs.inner.SchemaAnswers.{marks_left, IsSchemaRead, IsSchemaSkipped, IsSchemaFault, IsSkipFault}
use Rattle.gm_text.specs.declared.schema_fault.SchemaFault.{SchemaFault}
use Rattle.gm_text.specs.declared.schema_fault.SchemaFault.TheVariants as faults
use Rattle.gm_text.proofs.Machine.{reading_runs, ends_run, passes_run}
use Rattle.gm_text.proofs.SchemaGrammar.{spell_before, led_form, embeds_moved}
use Rattle.gm_text.proofs.SchemaStanding.{IsPlaceless, limit_placeless, passed_placeless, standing_grammar}

-- ---- one schema

-- the symbols lead from the one state to the other
abbrev Leading : State → List Symbol → State → Type 0
Leading state [] last = state ≡ last
Leading state (symbol ∷ others) last = (next : State) × (move state symbol ≡ Some next) × Leading next others last

leading : {What : Type 0} (passed : Role → Symbol → Option What) (state last : State) (parts : List (Part Role)) → Leads passed never role_at move state parts last → Leading state (symbols_in parts) last
leading passed state last [] e = e
leading passed state last (part ∷ parts) (place, next, is, moves, led) = (next, moves, leading passed next last parts led)

-- no embedding begins with the first of these marks
abbrev IsEnded : List Mark → Type 0
IsEnded rest = (next : Mark) × (others : List Mark) × (rest ≡ next ∷ others) × (next.symbol ≢ Word (codes "embed"))

no_more : (n : ℕ) (embeds : List Embed) (state last : State) (mark : Mark) (marks rest : List Mark) → state ≡ AtEmbeds n embeds → Leading state (symbols (mark ∷ marks)) last → rest ≡ mark ∷ marks → IsEnded rest → ⊥
no_more n embeds state last mark marks rest at (next, moves, led) same (first, others, behind, ends) =
    let here : mark ≡ first = cc (sym same ∙ behind) in
    let word = (embeds_moved n embeds mark.symbol next (subst (λ (s : State). move s mark.symbol ≡ Some next) at moves)).0 in
    ends (ap (λ (m : Mark). m.symbol) (sym here) ∙ word)

same_end : (state : State) (n m : ℕ) (embeds others : List Embed) (before later rest end : List Mark) → Leading state (symbols before) (AtEmbeds n embeds) → Leading state (symbols later) (AtEmbeds m others)
    → before ++ rest ≡ later ++ end → IsEnded rest → IsEnded end → (AtEmbeds n embeds ≡ AtEmbeds m others) × (rest ≡ end)
same_end state n m embeds others [] [] rest end one two same ends stops = (sym one ∙ two, same)
same_end state n m embeds others [] (mark ∷ later) rest end one two same ends stops = absurd (no_more n embeds state (AtEmbeds m others) mark later _ one two refl (go same ends))
  where
    go : rest ≡ mark ∷ (later ++ end) → IsEnded rest → IsEnded (mark ∷ later)
    go e (next, more, behind, other) = let here : mark ≡ next = cc (sym e ∙ behind) in (mark, later, refl, λ word. other (ap (λ (x : Mark). x.symbol) (sym here) ∙ word))
same_end state n m embeds others (mark ∷ before) [] rest end one two same ends stops = absurd (no_more m others state (AtEmbeds n embeds) mark before _ two one refl (go same stops))
  where
    go : mark ∷ (before ++ rest) ≡ end → IsEnded end → IsEnded (mark ∷ before)
    go e (next, more, behind, other) = let here : mark ≡ next = cc (e ∙ behind) in (mark, before, refl, λ word. other (ap (λ (x : Mark). x.symbol) (sym here) ∙ word))
same_end state n m embeds others (mark ∷ before) (first ∷ later) rest end (next, moves, led) (next', moves', led') same ends stops =
    let here : mark ≡ first = cc same in
    let behind : before ++ rest ≡ later ++ end = cc same in
    let both : Some next ≡ Some next' = sym moves ∙ ap (λ (x : Mark). move state x.symbol) here ∙ moves' in
    let one : next ≡ next' = cc both in
    same_end next n m embeds others before later rest end led (subst (λ (s : State). Leading s (symbols later) (AtEmbeds m others)) (sym one) led') behind ends stops

stands_leading : {What : Type 0} (passed : Role → Symbol → Option What) (form : SchemaForm) (marks rest : List Mark) → (stands : Stands passed form marks rest) → Leading AtDim (symbols stands.before) (AtEmbeds form.dim (map embed_of form.embeds))
stands_leading passed form marks rest stands =
    subst (λ (ss : List Symbol). Leading AtDim ss (AtEmbeds form.dim (map embed_of form.embeds))) (sym stands.spelled) (leading passed AtDim (AtEmbeds form.dim (map embed_of form.embeds)) (spell form []) (led_form passed form stands.good))

pub one_schema : {What Other : Type 0} (passed : Role → Symbol → Option What) (other : Role → Symbol → Option Other) (form second : SchemaForm) (marks rest end : List Mark) → Stands passed form marks rest → Stands other second marks end
    → (schema_of form ≡ schema_of second) × (rest ≡ end)
one_schema passed other form second marks rest end stands stands' =
    let same = same_end AtDim form.dim second.dim (map embed_of form.embeds) (map embed_of second.embeds) stands.before stands'.before rest end (stands_leading passed form marks rest stands) (stands_leading other second marks end stands')
    (sym stands.split ∙ stands'.split) (stands.next, stands.others, stands.behind, stands.ends) (stands'.next, stands'.others, stands'.behind, stands'.ends) in
    let at : AtEmbeds form.dim (map embed_of form.embeds) ≡ AtEmbeds second.dim (map embed_of second.embeds) = same.0 in
    let dim : form.dim ≡ second.dim = cc at in
    let all : map embed_of form.embeds ≡ map embed_of second.embeds = cc at in
    (ap (λ (d : ℕ). let s : Schema = record { dim = d; embeds = map embed_of form.embeds } in s) dim ∙ ap (λ (es : List Embed). let s : Schema = record { dim = second.dim; embeds = es } in s) all, same.1)

pub one_read : (old new other : Cursor) (schema second : Schema) → IsSchemaRead old new schema → IsSchemaRead old other second → (schema ≡ second) × (marks_left new ≡ marks_left other)
one_read old new other schema second one two =
    let same = one_schema passed_of passed_of one.form two.form (marks_left old) (marks_left new) (marks_left other) one.stands two.stands in
    (one.means ∙ same.0 ∙ sym two.means, same.1)

pub one_skipped : (old new other : Cursor) (schema : Schema) (n : ℕ) → IsSchemaRead old new schema → IsSchemaSkipped old other n → (schema.dim ≡ n) × (marks_left new ≡ marks_left other)
one_skipped old new other schema n one two =
    let same = one_schema passed_of limit_of one.form two.form (marks_left old) (marks_left new) (marks_left other) one.stands two.stands in
    (ap (λ (s : Schema). s.dim) (one.means ∙ same.0) ∙ sym two.means, same.1)

-- ---- one first fault

module _ {What : Type 0} (passed : Role → Symbol → Option What) (placeless : IsPlaceless passed) (free : (symbol : Symbol) → passed Fixed symbol ≡ None) where
  abbrev Run : List Mark → Result (Nested Around State) (Stop (Nested Around State) What)
  Run marks = run passed never (nested.role_at standing) (nested.move standing) (Inside AtDim) 0 marks

  abbrev AreWithin : List (Part Role) → Type 0
  AreWithin parts = IsWithin IsSentence passed parts

  beyond_within : (others : List Symbol) → AreWithin (map beyond others)
  beyond_within [] = tt
  beyond_within (symbol ∷ others) = (free symbol, beyond_within others)

  within_append : (parts more : List (Part Role)) → AreWithin parts → AreWithin more → AreWithin (parts ++ more)
  within_append [] more one two = two
  within_append (part ∷ parts) more one two = (one.0, within_append parts more one.1 two)

  beyond_symbols : (others : List Symbol) → symbols_in (map beyond others) ≡ others
  beyond_symbols [] = refl
  beyond_symbols (symbol ∷ others) = ap (λ (ss : List Symbol). symbol ∷ ss) (beyond_symbols others)

  pub stands_run : (form : SchemaForm) (marks rest : List Mark) → Stands passed form marks rest → Run marks ≡ Ok (Outside AtRest)
  stands_run form marks rest stands =
      let more = map beyond (stands.next.symbol ∷ symbols stands.others) in
      let behind : symbols rest ≡ symbols_in more = ap symbols stands.behind ∙ sym (beyond_symbols (stands.next.symbol ∷ symbols stands.others)) in
      let read : IsReadAs IsSentence passed marks (spell form [] ++ more) = record {
        spelled = ap symbols stands.split ∙ map-append (λ (mark : Mark). mark.symbol) stands.before rest ∙ ap (λ (ss : List Symbol). ss ++ symbols rest) stands.spelled ∙ ap (λ (ss : List Symbol). symbols_in (spell form []) ++ ss) behind
            ∙ sym (map-append (λ (part : Part Role). part.symbol) (spell form []) more);
        sentence = record { form = form; good = stands.good; next = stands.next.symbol; others = symbols stands.others; ends = stands.ends; spelled = spell_before form more };
        within = within_append (spell form []) more stands.within (beyond_within (stands.next.symbol ∷ symbols stands.others));
      } in
      reading_runs passed never (nested.role_at standing) (nested.move standing) IsSentence (Inside AtDim) (Outside AtRest) (standing_grammar passed placeless) marks (spell form [] ++ more) read

  pub text_run : (marks : List Mark) (place : ℕ) → TextEndsAt IsSentence passed marks place → (stop : Nested Around State) × (mark : Mark) × (mark.place ≡ place) × (Run marks ≡ Err (Ends stop mark))
  text_run marks place ends = ends_run passed never (nested.role_at standing) (nested.move standing) IsSentence (Inside AtDim) (Outside AtRest) (standing_grammar passed placeless) marks place ends

  pub passed_run : (marks : List Mark) (what : What) (place : ℕ) → LimitStandsAt IsSentence passed never marks what place → Run marks ≡ Err (Passes what place)
  passed_run marks what place stands = passes_run passed never (nested.role_at standing) (nested.move standing) IsSentence (Inside AtDim) (Outside AtRest) (standing_grammar passed placeless) marks what place stands

  -- an end at one place, or something passed at one
  pub data Fault (marks : List Mark) : Type 0 where
    AtText : (place : ℕ) → TextEndsAt IsSentence passed marks place → Fault marks
    AtPassed : (what : What) (place : ℕ) → LimitStandsAt IsSentence passed never marks what place → Fault marks

  pub no_fault : (form : SchemaForm) (marks rest : List Mark) → Stands passed form marks rest → Fault marks → ⊥
  no_fault form marks rest stands (AtText place ends) = let (stop, mark, at, is) = text_run marks place ends in let no_way : Ok (Outside AtRest) ≡ Err (Ends stop mark) = sym (stands_run form marks rest stands) ∙ is in absurd cc
  no_fault form marks rest stands (AtPassed what place passes) = let no_way : Ok (Outside AtRest) ≡ Err (Passes what place) = sym (stands_run form marks rest stands) ∙ passed_run marks what place passes in absurd cc

  pub same_text : (marks : List Mark) (place other : ℕ) → TextEndsAt IsSentence passed marks place → TextEndsAt IsSentence passed marks other → place ≡ other
  same_text marks place other one two =
      let (stop, mark, at, is) = text_run marks place one in
      let (stop', mark', at', is') = text_run marks other two in
      let same : Err (Ends stop mark) ≡ Err (Ends stop' mark') = sym is ∙ is' in
      let there : mark ≡ mark' = cc same in
      sym at ∙ ap (λ (m : Mark). m.place) there ∙ at'

  pub text_or_passed : (marks : List Mark) (place other : ℕ) (what : What) → TextEndsAt IsSentence passed marks place → LimitStandsAt IsSentence passed never marks what other → ⊥
  text_or_passed marks place other what one two =
      let (stop, mark, at, is) = text_run marks place one in
      let same : Err (Ends stop mark) ≡ Err (Passes what other) = sym is ∙ passed_run marks what other two in
      absurd cc

  pub same_passed : (marks : List Mark) (place other : ℕ) (what thing : What) → LimitStandsAt IsSentence passed never marks what place → LimitStandsAt IsSentence passed never marks thing other → (what ≡ thing) × (place ≡ other)
  same_passed marks place other what thing one two =
      let same : Err (Passes what place) ≡ Err (Passes thing other) = sym (passed_run marks what place one) ∙ passed_run marks thing other two in
      let w : what ≡ thing = cc same in
      let p : place ≡ other = cc same in
      (w, p)

free_passed : (symbol : Symbol) → passed_of Fixed symbol ≡ None
free_passed symbol = refl

free_limit : (symbol : Symbol) → limit_of Fixed symbol ≡ None
free_limit symbol = refl

pub one_fault : (marks : List Mark) (fault other : SchemaFault) → fault ≢ faults.OutOfMemory → other ≢ faults.OutOfMemory → IsSchemaFault marks fault → IsSchemaFault marks other → fault ≡ other
one_fault marks faults.OutOfMemory other known seen one two = absurd (known refl)
one_fault marks fault faults.OutOfMemory known seen one two = absurd (seen refl)
one_fault marks (faults.Text place) (faults.Text other) known seen one two = ap (λ (p : ℕ). faults.Text p) (same_text passed_of passed_placeless free_passed marks place other one two)
one_fault marks (faults.Text place) (faults.Limit what other) known seen one two = absurd (text_or_passed passed_of passed_placeless free_passed marks place other (LimitOf what) one two)
one_fault marks (faults.Text place) (faults.Twice other) known seen one two = absurd (text_or_passed passed_of passed_placeless free_passed marks place other Again one two)
one_fault marks (faults.Limit what place) (faults.Text other) known seen one two = absurd (text_or_passed passed_of passed_placeless free_passed marks other place (LimitOf what) two one)
one_fault marks (faults.Limit what place) (faults.Limit thing other) known seen one two =
    let same = same_passed passed_of passed_placeless free_passed marks place other (LimitOf what) (LimitOf thing) one two in
    let w : LimitOf what ≡ LimitOf thing = same.0 in
    let k : what ≡ thing = cc w in
    ap (λ (l : LimitKind). faults.Limit l place) k ∙ ap (λ (p : ℕ). faults.Limit thing p) same.1
one_fault marks (faults.Limit what place) (faults.Twice other) known seen one two = let same : LimitOf what ≡ Again = (same_passed passed_of passed_placeless free_passed marks place other (LimitOf what) Again one two).0 in absurd cc
one_fault marks (faults.Twice place) (faults.Text other) known seen one two = absurd (text_or_passed passed_of passed_placeless free_passed marks other place Again two one)
one_fault marks (faults.Twice place) (faults.Limit what other) known seen one two = let same : Again ≡ LimitOf what = (same_passed passed_of passed_placeless free_passed marks place other Again (LimitOf what) one two).0 in absurd cc
one_fault marks (faults.Twice place) (faults.Twice other) known seen one two = ap (λ (p : ℕ). faults.Twice p) (same_passed passed_of passed_placeless free_passed marks place other Again Again one two).1

pub one_skip_fault : (marks : List Mark) (fault other : SchemaFault) → IsSkipFault marks fault → IsSkipFault marks other → fault ≡ other
one_skip_fault marks (faults.Text place) (faults.Text other) one two = ap (λ (p : ℕ). faults.Text p) (same_text limit_of limit_placeless free_limit marks place other one two)
one_skip_fault marks (faults.Text place) (faults.Limit what other) one two = absurd (text_or_passed limit_of limit_placeless free_limit marks place other what one two)
one_skip_fault marks (faults.Limit what place) (faults.Text other) one two = absurd (text_or_passed limit_of limit_placeless free_limit marks other place what two one)
one_skip_fault marks (faults.Limit what place) (faults.Limit thing other) one two =
    let same = same_passed limit_of limit_placeless free_limit marks place other what thing one two in
    ap (λ (l : LimitKind). faults.Limit l place) same.0 ∙ ap (λ (p : ℕ). faults.Limit thing p) same.1
one_skip_fault marks (faults.Twice place) other one two = absurd one
one_skip_fault marks faults.OutOfMemory other one two = absurd one
one_skip_fault marks fault (faults.Twice place) one two = absurd two
one_skip_fault marks fault faults.OutOfMemory one two = absurd two

pub no_schema : (old new : Cursor) (schema : Schema) (fault : SchemaFault) → fault ≢ faults.OutOfMemory → IsSchemaRead old new schema → IsSchemaFault (marks_left old) fault → ⊥
no_schema old new schema (faults.Text place) known read is = no_fault passed_of passed_placeless free_passed read.form (marks_left old) (marks_left new) read.stands (AtText place is)
no_schema old new schema (faults.Limit what place) known read is = no_fault passed_of passed_placeless free_passed read.form (marks_left old) (marks_left new) read.stands (AtPassed (LimitOf what) place is)
no_schema old new schema (faults.Twice place) known read is = no_fault passed_of passed_placeless free_passed read.form (marks_left old) (marks_left new) read.stands (AtPassed Again place is)
no_schema old new schema faults.OutOfMemory known read is = known refl

pub no_skipped : (old new : Cursor) (n : ℕ) (fault : SchemaFault) → IsSchemaSkipped old new n → IsSkipFault (marks_left old) fault → ⊥
no_skipped old new n (faults.Text place) read is = no_fault limit_of limit_placeless free_limit read.form (marks_left old) (marks_left new) read.stands (AtText place is)
no_skipped old new n (faults.Limit what place) read is = no_fault limit_of limit_placeless free_limit read.form (marks_left old) (marks_left new) read.stands (AtPassed what place is)
no_skipped old new n (faults.Twice place) read is = is
no_skipped old new n faults.OutOfMemory read is = is
