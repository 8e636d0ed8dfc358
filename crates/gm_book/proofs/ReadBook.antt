-- What the passes of the reader of a book's text say of the whole.
use Rattle.std.proofs.Common.{◌≡◌, ℕ, true, false, List, [], ◌∷◌, map, All, Result, Ok, Err, sym, ap, subst, ◌∙◌}
use Rattle.std.proofs.lemmas.List.Elements.{All-head, All-tail}
use Rattle.std.specs.Prelude.{IfOk, IfErr}
use Rattle.std.specs.List.{AllByRecursion, AllZip}
use Rattle.gm_model.specs.declared.limit.LimitKind.{LimitKind}
use Rattle.gm_model.specs.declared.rule.Book.{Book}
use Rattle.gm_model.specs.declared.rule.RuleTable.{RuleTable}
use Rattle.gm_model.specs.declared.schema.Schema.{Schema}
use Rattle.gm_model.specs.Rules.{Rule, rule_of}
use Rattle.gm_model.specs.Reading.{Part, IsWithin, symbols_in, the_end, ArePlaced}
use Rattle.gm_model.specs.Kinds.{IsTyped}
use Rattle.gm_model.specs.Structure.{IsInRange, IsWithinLimits}
use Rattle.gm_model.specs.Symbols.{Mark, marks_of}
use Rattle.gm_text.specs.inner.Cursor.{Cursor}
use Rattle.gm_text.specs.inner.Machine.{Stop, Ends, Passes}
use Rattle.gm_text.specs.inner.Nested.{Outside, Inside}
use Rattle.gm_text.specs.SchemaText.{schema_of, passed_of, limit_of as schema_limit, spell}
use Rattle.gm_text.specs.inner.SchemaReading as schema
use Rattle.gm_text.specs.inner.SchemaReading.{Stands}
use Rattle.gm_text.specs.inner.SchemaAnswers.{marks_left, SkipsSchema, IsSchemaSkipped, IsSchemaRead, Stops, StopsOrLost}
use Rattle.gm_text.specs.declared.schema_fault.SchemaFault.{SchemaFault}
use Rattle.gm_text.specs.declared.schema_fault.SchemaFault.TheVariants as schema_faults
use Rattle.gm_text.proofs.Lexemes.{IsSound, words_are_lexemes}
use Rattle.gm_text.proofs.Machine.{run_reads, run_ends, run_passes, ended_is, passing_is, along_spelled}
use Rattle.gm_text.proofs.OneSchema.{one_skipped}
use Rattle.gm_forms.specs.BookText.{RuleForm, BookForm, Role, Fixed, limit_of, stands_before, IsSentence, spell_rules, IsWritten, IsTextFault, IsLimitFault, NameFault, TwiceAt, UnknownAt, WrongKindAt, IsNotAfter, IsNameFault, SchemaTwice, RulesFault, MeansRule, BookText, IsPlacedAt}
use Rattle.gm_book.specs.declared.fault.BookFault.{BookFault}
use Rattle.gm_book.specs.declared.fault.BookFault.TheVariants as faults
use Rattle.gm_forms.specs.declared.form_fault.FormFault.{FormFault}
use Rattle.gm_forms.specs.declared.form_fault.FormFault.TheVariants as forms
use Rattle.gm_book.specs.inner.Building.{HasNoFaultInRules, IsFirstInRules, IsFaultOfNames}
use Rattle.gm_book.specs.inner.Fitting.{IsFitting, HasExprs}
use Rattle.gm_book.specs.inner.Unsigned.{HasUnsignedExprs}
use Rattle.gm_book.specs.inner.Faults.{IsFaultOf, book_fault_of_form, book_fault_of_schema}
use Rattle.gm_forms.specs.inner.Reading.{State, AtRules, AtEnd, heading_at, AtFormat, header_at, Whole, in_rules, Held, book_nesting, role_at, move, run, run_whole}
use Rattle.gm_forms.specs.inner.Standing.{IsHeaded, IsHeadFault, AreRulesRead, IsRulesFault}
use Rattle.gm_book.proofs.CanonicalBook.{passes_free, none_again}
use Rattle.gm_forms.proofs.Grammar.{placed_along}
use Rattle.gm_forms.proofs.Header.{book_grammar}
use Rattle.gm_forms.proofs.NamePlaces.{schema_is_first, first_is_fault}
use Rattle.gm_book.proofs.ReadLimits.{both_fit, all_exprs, all_fitting}
use Rattle.gm_book.proofs.ReadRange.{range_from_text}
use Rattle.gm_forms.proofs.SchemaNames.{IsFaultOfSchema, schema_fault}
use Rattle.gm_forms.proofs.Marks.{along_rules}
use Rattle.gm_forms.proofs.Whole.{head_runs, schema_runs, Answers, schema_stops, IsSame, behind_schema}
use Rattle.gm_book.proofs.Written.{AreThere, written_from}
use Rattle.gm_text.specs.inner.Nested as nested

-- ---- the rules

-- what the machine goes through are rules that are written there
pub rules_there : (version n : ℕ) (marks : List Mark) (rules : List RuleForm) → AreRulesRead (heading_at version n) marks rules → AreThere version n rules marks
rules_there version n marks rules read =
    let first = AtRules (heading_at version n) in
    let parts = run_reads limit_of stands_before role_at move first AtEnd 0 marks read.ends in
    let is = along_rules (heading_at version n) marks parts.parts parts.along in
    let same : is.rules ≡ rules = sym (ap (λ (h : Held). h.rules) is.held) ∙ read.held in
    let placed = placed_along first AtEnd marks parts.parts parts.along in
    let spelled = along_spelled limit_of stands_before role_at move first AtEnd marks parts.parts parts.along in
    let there : AreThere version n is.rules marks = record {
      good = is.rules_good;
      spelled = spelled ∙ ap (λ (ps : List (Part Role)). symbols_in ps) is.same;
      within = subst (λ (ps : List (Part Role)). IsWithin IsSentence limit_of ps) is.same parts.within;
      placed = subst (λ (ps : List (Part Role)). ArePlaced IsPlacedAt marks ps) is.same placed;
    } in
    subst (λ rs. AreThere version n rs marks) same there

-- they pass no limit, and their expressions are expressions
pub fitting_there : (version n : ℕ) (cursor : Cursor) (rules : List RuleForm) → AreThere version n rules (marks_left cursor) → AllByRecursion (IsFitting n) rules
fitting_there version n cursor rules there = all_fitting version n rules there.good (both_fit (spell_rules n 0 rules (the_end Fixed ∷ [])) (subst (AllByRecursion IsSound) there.spelled (words_are_lexemes cursor.text cursor.place)) there.within)

pub exprs_there : (version n : ℕ) (marks : List Mark) (rules : List RuleForm) → AreThere version n rules marks → AllByRecursion (HasExprs n) rules
exprs_there version n marks rules there = all_exprs version n rules there.good

-- ---- faults of the grammar

module _ (text : List ℕ) where
  abbrev Run : Result Whole (Stop Whole LimitKind)
  Run = run_whole (Outside AtFormat) 0 (marks_of text)

  limit_is : (what : LimitKind) (place : ℕ) → Run ≡ Err (Passes what place) → IsLimitFault text what place
  limit_is what place e =
      passing_is limit_of stands_before (nested.role_at book_nesting) (nested.move book_nesting) IsSentence (Outside AtFormat) (in_rules AtEnd) book_grammar (marks_of text) what place
      (run_passes limit_of stands_before (nested.role_at book_nesting) (nested.move book_nesting) (Outside AtFormat) 0 (marks_of text) what place e)

  ends_here : (state : Whole) (mark : Mark) (place : ℕ) → Run ≡ Err (Ends state mark) → mark.place ≡ place → IsTextFault text place
  ends_here state mark place e here =
      let role = nested.role_at book_nesting in
      let move_on = nested.move book_nesting in
      let ended = run_ends limit_of stands_before role move_on (Outside AtFormat) state 0 (marks_of text) mark e in
      subst (IsTextFault text) here (ended_is limit_of stands_before role move_on IsSentence (Outside AtFormat) (in_rules AtEnd) book_grammar state (marks_of text) mark ended)

  pub head_fault : (fault : FormFault) → IsHeadFault (Outside AtFormat) (marks_of text) fault → IsFaultOf text (book_fault_of_form fault)
  head_fault (forms.Text place) fault = let (state, mark, runs, here) = fault 0 in ends_here state mark place runs here
  head_fault (forms.Limit what place) fault = absurd fault
  head_fault forms.OutOfMemory fault = absurd fault

  module _ (version : ℕ) (old : Cursor) (headed : IsHeaded (marks_of text) version (marks_left old)) where
    head : (last : ℕ) × (Run ≡ run_whole (Inside (header_at version schema.AtDim)) last (marks_left old))
    head = head_runs (marks_of text) (marks_left old) version headed

    -- where the schema passes a limit, or no schema goes on
    pub skip_fault : (fault : SchemaFault) → Stops false schema.AtDim old fault → IsFaultOf text (book_fault_of_schema fault)
    skip_fault fault stops = go fault head.0 head.1 (schema_stops version old head.0 fault stops)
      where
        go : (fault : SchemaFault) (last : ℕ) → Run ≡ run_whole (Inside (header_at version schema.AtDim)) last (marks_left old) → Answers version old last fault → IsFaultOf text (book_fault_of_schema fault)
        go (schema_faults.Text place) last same (state, mark, runs, here) = ends_here state mark place (same ∙ runs) here
        go (schema_faults.Limit what place) last same runs = limit_is what place (same ∙ runs)
        go (schema_faults.Twice place) last same none = absurd none
        go schema_faults.OutOfMemory last same none = absurd none

    module _ (new : Cursor) (n : ℕ) (skips : SkipsSchema old new n) (skipped : IsSchemaSkipped old new n) where
      abbrev Rules : Result State (Stop State LimitKind)
      Rules = run (AtRules (heading_at version n)) 0 (marks_left new)

      -- the rules are read as they are within the whole
      same_run : IsSame Rules Run
      same_run =
          let (last, from) = head in
          let (behind, runs) = schema_runs version old new n last skips in
          let next = skipped.stands.next in
          let others = skipped.stands.others in
          let there = behind_schema version n skips.0 behind next others skipped.stands.ends in
          let at : IsSame Rules (run_whole (Inside (header_at version (schema.AtEmbeds n skips.0))) behind (marks_left new)) =
          subst (λ (ms : List Mark). IsSame (run (AtRules (heading_at version n)) 0 ms) (run_whole (Inside (header_at version (schema.AtEmbeds n skips.0))) behind ms)) (sym skipped.stands.behind) there in
          subst (IsSame Rules) (sym (from ∙ runs)) at

      ended_there : (state : State) (mark : Mark) → Rules ≡ Err (Ends state mark) → (whole : Whole) × (Run ≡ Err (Ends whole mark))
      ended_there state mark e = subst (λ (answer : Result State (Stop State LimitKind)). IsSame answer Run) e same_run

      passed_there : (what : LimitKind) (place : ℕ) → Rules ≡ Err (Passes what place) → Run ≡ Err (Passes what place)
      passed_there what place e = subst (λ (answer : Result State (Stop State LimitKind)). IsSame answer Run) e same_run

      pub rules_fault : (fault : FormFault) → IsRulesFault (heading_at version n) (marks_left new) fault → IsFaultOf text (book_fault_of_form fault)
      rules_fault (forms.Text place) (state, mark, runs, here) = let (whole, ends) = ended_there state mark runs in ends_here whole mark place ends here
      rules_fault (forms.Limit what place) runs = limit_is what place (passed_there what place runs)
      rules_fault forms.OutOfMemory h = tt

      -- ---- faults of the schema's names

      module _ (rules : List RuleForm) (there : AreThere version n rules (marks_left new)) where
        abbrev skipped_book : BookForm
        skipped_book = record { version = version; schema = skipped.form; rules = rules }

        skipped_written : IsWritten text skipped_book
        skipped_written = written_from schema_limit (λ role symbol e. e) text version skipped.form rules (marks_left old) (marks_left new) headed skipped.stands (subst (λ (m : ℕ). AreThere version m rules (marks_left new)) skipped.means there)

        pub names_in_schema : (again : Cursor) (fault : SchemaFault) → again ≡ old → StopsOrLost true schema.AtDim again fault → IsFaultOf text (book_fault_of_schema fault)
        names_in_schema again fault same stops = go fault (schema_fault skipped.form (marks_left old) (marks_left new) skipped.stands again fault (ap marks_left same) stops)
          where
            go : (fault : SchemaFault) → IsFaultOfSchema skipped.form (marks_left old) (marks_left new) skipped.stands fault → IsFaultOf text (book_fault_of_schema fault)
            go (schema_faults.Text place) none = absurd none
            go (schema_faults.Limit what place) none = absurd none
            go (schema_faults.Twice place) first = record { book = skipped_book; written = skipped_written; found = first_is_fault skipped_book place first; first = schema_is_first text skipped_book place skipped_written first }
            go schema_faults.OutOfMemory lost = tt

        -- ---- the book

        module _ (declared : Schema) (behind : Cursor) (read : IsSchemaRead old behind declared) where
          abbrev book : BookForm
          book = record { version = version; schema = read.form; rules = rules }

          written : IsWritten text book
          written =
              let same = one_skipped old behind new declared n read skipped in
              let stands = subst (λ (ms : List Mark). Stands passed_of read.form (marks_left old) ms) same.1 read.stands in
              let dim : n ≡ read.form.dim = sym same.0 ∙ ap (λ (s : Schema). s.dim) read.means in
              written_from passed_of passes_free text version read.form rules (marks_left old) (marks_left new) headed stands (subst (λ (m : ℕ). AreThere version m rules (marks_left new)) dim there)

          abbrev told : Schema
          told = schema_of read.form

          faultless : HasNoFaultInRules told.dim told.embeds rules → (fault : NameFault) → IsNameFault book fault → ⊥
          faultless sound _ (SchemaTwice place part among again here) = none_again (spell read.form []) read.stands.within part among again
          faultless sound fault (RulesFault _ found) = sound fault found

          first_of_all : (fault : NameFault) → IsFirstInRules told.dim told.embeds rules fault → (other : NameFault) → IsNameFault book other → IsNotAfter fault other
          first_of_all fault first _ (SchemaTwice place part among again here) = absurd (none_again (spell read.form []) read.stands.within part among again)
          first_of_all fault first other (RulesFault _ found) = first.first other found

          name_fault : (fault : BookFault) → IsFaultOfNames told.dim told.embeds rules fault → IsFaultOf text fault
          name_fault (faults.Twice place) first = record { book = book; written = written; found = RulesFault (TwiceAt place) first.found; first = first_of_all (TwiceAt place) first }
          name_fault (faults.Unknown place) first = record { book = book; written = written; found = RulesFault (UnknownAt place) first.found; first = first_of_all (UnknownAt place) first }
          name_fault (faults.WrongKind place) first = record { book = book; written = written; found = RulesFault (WrongKindAt place) first.found; first = first_of_all (WrongKindAt place) first }
          name_fault faults.OutOfMemory lost = tt
          name_fault (faults.Text place) none = absurd none
          name_fault (faults.Limit what place) none = absurd none

          pub answer_stands : (result : Result Book BookFault) → IfOk result (λ made. made.version ≡ version) → IfOk result (λ made. made.schema ≡ declared)
              → IfOk result (λ made. AllZip (MeansRule declared.dim declared.embeds) rules (map rule_of made.rules)) → IfOk result (λ _. HasNoFaultInRules declared.dim declared.embeds rules)
              → IfOk result (λ made. BookText text made.version made.schema (map rule_of made.rules))
          answer_stands (Ok made) versions schemas same sound = record {
            book = book;
            written = written;
            sound = faultless (subst (λ (s : Schema). HasNoFaultInRules s.dim s.embeds rules) read.means sound);
            versions = versions;
            means = schemas ∙ read.means;
            same = subst (λ (s : Schema). AllZip (MeansRule s.dim s.embeds) rules (map rule_of made.rules)) read.means same;
          }
          answer_stands (Err fault) versions schemas same sound = tt

          pub answer_faults : (result : Result Book BookFault) → IfErr result (IsFaultOfNames declared.dim declared.embeds rules) → IfErr result (IsFaultOf text)
          answer_faults (Ok made) h = tt
          answer_faults (Err fault) h = name_fault fault (subst (λ (s : Schema). IsFaultOfNames s.dim s.embeds rules fault) read.means h)

-- ---- what is read is in range

each_table : (P : Rule → Type 0) (tables : List RuleTable) → All P (map rule_of tables) → AllByRecursion (λ table. P (rule_of table)) tables
each_table P [] all = tt
each_table P (table ∷ tables) all = (All-head P (rule_of table) (map rule_of tables) all, each_table P tables (All-tail P (rule_of table) (map rule_of tables) all))

-- where a book stands in the text, what its rules have in common by the text holds of its tables
of_tables : (P : Schema → Rule → Type 0) → ((whole : List ℕ) (version : ℕ) (schema : Schema) (rules : List Rule) → BookText whole version schema rules → All (P schema) rules) → (text : List ℕ) (result : Result Book BookFault)
    → IfOk result (λ book. BookText text book.version book.schema (map rule_of book.rules)) → IfOk result (λ book. AllByRecursion (λ rule. P book.schema (rule_of rule)) book.rules)
of_tables P common text (Ok book) stands = each_table (P book.schema) book.rules (common text book.version book.schema (map rule_of book.rules) stands)
of_tables P common text (Err fault) stands = tt

module _ (text : List ℕ) (result : Result Book BookFault) (stands : IfOk result (λ book. BookText text book.version book.schema (map rule_of book.rules))) where
  pub answer_in_range : IfOk result (λ book. AllByRecursion (λ rule. IsInRange book.schema (rule_of rule)) book.rules)
  answer_in_range = of_tables IsInRange (λ whole version schema rules is k d inside. (range_from_text whole version schema rules is k d inside).0) text result stands

  pub answer_within_limits : IfOk result (λ book. AllByRecursion (λ rule. IsWithinLimits (rule_of rule)) book.rules)
  answer_within_limits = of_tables (λ schema. IsWithinLimits) (λ whole version schema rules is k d inside. (range_from_text whole version schema rules is k d inside).1) text result stands

  pub answer_typed : IfOk result (λ book. AllByRecursion (λ rule. IsTyped book.schema (rule_of rule)) book.rules)
  answer_typed = of_tables IsTyped (λ whole version schema rules is k d inside. (range_from_text whole version schema rules is k d inside).2) text result stands

  pub answer_unsigned : IfOk result (λ book. AllByRecursion (λ rule. HasUnsignedExprs (rule_of rule)) book.rules)
  answer_unsigned = of_tables (λ schema. HasUnsignedExprs) (λ whole version schema rules is k d inside. (range_from_text whole version schema rules is k d inside).3) text result stands
