-- All words and files have an answer: each text stands for something or has a first fault, each rule is accepted or has one, and each map has its numbers and an orientation.
use Rattle.std.proofs.Common.{◌≡◌, ◌⊎◌, ◌↔◌, ℕ, ◌+◌, ◌<◌, ◌≤◌, zero, suc, List, [], ◌∷◌, ◌++◌, length, map, codes, Option, None, Some, slice_get, All, inl, inr, refl, sym, subst, arith}
use Rattle.std.specs.List.{AllByRecursion}
use Rattle.std.proofs.lemmas.Bool.{cases_lt}
use Rattle.std.proofs.lemmas.List.Elements.{All-from_recursion, recursion_from_All}
use Rattle.gm_book.proofs.BookAtLeast as books_at_least
use Rattle.gm_book.proofs.ReadRange.{range_from_text}
use Rattle.gm_cells.proofs.CountsFound.{counts_exist}
use Rattle.gm_cells.proofs.OrientationFound.{orientation_exists}
use Rattle.gm_cells.specs.CellsText.{counts_text, orientation_text}
use Rattle.gm_book.specs.Canonical as books
use Rattle.gm_book.specs.declared.fault.BookFault.{BookFault}
use Rattle.gm_book.specs.declared.fault.BookFault.TheVariants as book_faults
use Rattle.gm_book.specs.inner.Faults as read_book
use Rattle.gm_dual.specs.Duals.{dual_rule, dual_schema}
use Rattle.gm_forms.specs.BookText.{BookText, TwiceAt, UnknownAt, WrongKindAt}
use Rattle.gm_lines.specs.BookFaults.{BookTextFault, IsFirstBookFault, book_fault_words}
use Rattle.gm_lines.specs.BookFaults as of_book
use Rattle.gm_lines.specs.Checking.{AreLines, NoRules, NextRule, check_status, counts_line, refusals, rule_fault_words, rule_line}
use Rattle.gm_lines.specs.Refusing.{Role, TheMap, TheBook, TheScript, IsBad, BadMap, BadBook, refusal, role_word}
use Rattle.gm_lines.specs.ScriptFaults.{ScriptTextFault, IsFirstScriptFault, script_fault_words}
use Rattle.gm_lines.specs.ScriptFaults as of_script
use Rattle.gm_mapfile.proofs.MapAtLeast as maps_at_least
use Rattle.gm_mapfile.specs.MapFaults.{TextFault, IsFirstFault, fault_words}
use Rattle.gm_mapfile.specs.MapText.{ListedMap, MapText, map_of, canonical}
use Rattle.gm_mapfile.specs.declared.version.MapVersion.{MapVersion}
use Rattle.gm_model.specs.declared.rule.RuleFault.{RuleFault}
use Rattle.gm_model.specs.declared.schema.Schema.{Schema}
use Rattle.gm_model.specs.Statements.{Stat}
use Rattle.gm_model.specs.Acceptance.{IsAccepted, IsFault}
use Rattle.gm_model.specs.Kinds.{IsTyped}
use Rattle.gm_model.specs.Maps.{Map, IsSound}
use Rattle.gm_model.specs.Rules.{Rule}
use Rattle.gm_model.specs.Structure.{IsInRange}
use Rattle.gm_plan.proofs.FaultFound.{accepted_or_fault}
use Rattle.gm_script.proofs.AtLeast as scripts_at_least
use Rattle.gm_script.specs.declared.fault.ScriptFault.{ScriptFault}
use Rattle.gm_script.specs.declared.fault.ScriptFault.TheVariants as script_faults
use Rattle.gm_script.specs.inner.Faults as read_script
use Rattle.gm_script.specs.ScriptText.{ScriptText, UnknownRuleAt, HookCountAt, ParamsAt}
use Rattle.gm_theory.proofs.Lists.{some_same}
use Rattle.gm_theory.proofs.ValuesReach.{IsDecided}
use Rattle.gm_tool.specs.Answer.{most_bytes, Files, Answer, answers, Command, Show, Book, Check, Cells, Asks, role_of, HasFile, IsOutput, Shown, Printed, Checked, Counted, IsFileAnswer, NoFile, LongFile, BadFile, TellsCells}
use Rattle.gm_tool.specs.Answer as of_file
use Rattle.gm_tool.specs.DualAnswer.{DualNames, DualInputs, HasDualMap, HasDualBook, IsListedDual, IsGoodDual, IsDualAnswer}
use Rattle.gm_tool.specs.DualAnswer as duals
use Rattle.gm_tool.specs.Migrating.{MigrateNames, HasMigrated, IsMigrateAnswer, migrated_line, migrated_text}
use Rattle.gm_tool.specs.Migrating as migrating
use Rattle.gm_tool.specs.Program.{IsAnswer, IsCommand, IsDualCommand, IsFileCommand, IsGridCommand, IsMigrateCommand, IsRunCommand, Usage, OfFile, OfRun, OfMigrate, OfDual, OfGrid}
use Rattle.gm_tool.specs.RunAnswer.{RunNames, Inputs, Ran, HasMap, HasBook, HasScript, Agree, IsFailing, Missing, Long, Bad, IsBadMap, IsBadBook, IsBadBookText, Unread, RuleRefused, IsBadScript, IsFirstRefused, IsGoodRun, IsRunAnswer, MapFails, BookFails, ScriptFails, Disagree, report_of, saved_of, run_status}
use Rattle.gm_tool.specs.RunAnswer as running
use Rattle.gm_tool.proofs.DualFound.{dual_of_text}
use Rattle.gm_tool.proofs.GridMade.{grid_answered}
use Rattle.gm_tool.proofs.OneAnswer.{one_answer}
use Rattle.gm_tool.proofs.RunsMade.{run_made}
use Rattle.gm_tool.proofs.WordsDecided.{decide_dual, decide_file, decide_grid, decide_migrate, decide_run, same_schema}

abbrev HasAnswer : (Answer → Type 0) → Type 0
HasAnswer Is = (answer : Answer) × Is answer

-- ---- first faults as the program tells them

first_of_book : (text : List ℕ) (fault : BookFault) → (fault ≡ book_faults.OutOfMemory → ⊥) → read_book.IsFaultOf text fault → (told : BookTextFault) × IsFirstBookFault text told
first_of_book text (book_faults.Text place) real is = (of_book.Ends place, of_book.AtEnds place is)
first_of_book text (book_faults.Limit what place) real is = (of_book.Passes what place, of_book.AtPasses what place is)
first_of_book text (book_faults.Twice place) real is = (of_book.OfName (TwiceAt place), of_book.AtName (TwiceAt place) is)
first_of_book text (book_faults.Unknown place) real is = (of_book.OfName (UnknownAt place), of_book.AtName (UnknownAt place) is)
first_of_book text (book_faults.WrongKind place) real is = (of_book.OfName (WrongKindAt place), of_book.AtName (WrongKindAt place) is)
first_of_book text book_faults.OutOfMemory real is = absurd (real refl)

first_of_script : (text : List ℕ) (n : ℕ) (rules : List Rule) (fault : ScriptFault) → (fault ≡ script_faults.OutOfMemory → ⊥) → read_script.IsFaultOf text n rules fault → (told : ScriptTextFault) × IsFirstScriptFault text n rules told
first_of_script text n rules (script_faults.Text place) real is = (of_script.Ends place, of_script.AtEnds place is)
first_of_script text n rules (script_faults.Limit what place) real is = (of_script.Passes what place, of_script.AtPasses what place is)
first_of_script text n rules (script_faults.Twice place) real is = (of_script.Again place, of_script.AtAgain place is)
first_of_script text n rules (script_faults.UnknownRule place) real is = (of_script.OfStat (UnknownRuleAt place), of_script.AtStat (UnknownRuleAt place) is)
first_of_script text n rules (script_faults.HookCount place) real is = (of_script.OfStat (HookCountAt place), of_script.AtStat (HookCountAt place) is)
first_of_script text n rules (script_faults.Params place) real is = (of_script.OfStat (ParamsAt place), of_script.AtStat (ParamsAt place) is)
first_of_script text n rules script_faults.OutOfMemory real is = absurd (real refl)

-- ---- a file

-- it is held, and not too long, or it fails
at_file : (files : Files) (role : Role) (name : List ℕ) (IsBadText : List ℕ → List ℕ → Type 0) → HasAnswer (IsFailing files role name IsBadText) ⊎ ((bytes : List ℕ) × HasFile files name bytes)
at_file files role name IsBadText = go (files name) refl
  where
    by : (bytes : List ℕ) → files name ≡ Some bytes → (most_bytes < length bytes) ⊎ (length bytes ≤ most_bytes) → HasAnswer (IsFailing files role name IsBadText) ⊎ ((other : List ℕ) × HasFile files name other)
    by bytes is (inl long) = inl (answers 8 (refusal (codes "size " ++ role_word role)), Long bytes is long refl)
    by bytes is (inr fits) = inr (bytes, (is, fits))

    go : (file : Option (List ℕ)) → files name ≡ file → HasAnswer (IsFailing files role name IsBadText) ⊎ ((bytes : List ℕ) × HasFile files name bytes)
    go None is = inl (answers 3 (refusal (codes "load " ++ role_word role)), Missing is refl)
    go (Some bytes) is = by bytes is (cases_lt most_bytes (length bytes))

bad_file : (files : Files) (role : Role) (name : List ℕ) (IsBadText : List ℕ → List ℕ → Type 0) (bytes why : List ℕ) → HasFile files name bytes → IsBadText bytes why → HasAnswer (IsFailing files role name IsBadText)
bad_file files role name IsBadText bytes why held bad = (answers 4 (refusal (role_word role ++ codes " " ++ why)), Bad bytes why held bad refl)

book_judged : (bytes : List ℕ) → ((version : ℕ) × (schema : Schema) × (rules : List Rule) × BookText bytes version schema rules) ⊎ ((fault : BookTextFault) × IsFirstBookFault bytes fault)
book_judged bytes = go (books_at_least.stands_or_fault bytes)
  where
    go : ((version : ℕ) × (schema : Schema) × (rules : List Rule) × BookText bytes version schema rules) ⊎ ((fault : BookFault) × (fault ≡ book_faults.OutOfMemory → ⊥) × read_book.IsFaultOf bytes fault)
        → ((version : ℕ) × (schema : Schema) × (rules : List Rule) × BookText bytes version schema rules) ⊎ ((fault : BookTextFault) × IsFirstBookFault bytes fault)
    go (inl stands) = inl stands
    go (inr (fault, real, is)) = inr (first_of_book bytes fault real is)

script_judged : (bytes : List ℕ) (n : ℕ) (rules : List Rule) → ((stats : List Stat) × ScriptText bytes n rules stats) ⊎ ((fault : ScriptTextFault) × IsFirstScriptFault bytes n rules fault)
script_judged bytes n rules = go (scripts_at_least.stands_or_fault bytes n rules)
  where
    go : ((stats : List Stat) × ScriptText bytes n rules stats) ⊎ ((fault : ScriptFault) × (fault ≡ script_faults.OutOfMemory → ⊥) × read_script.IsFaultOf bytes n rules fault) → ((stats : List Stat) × ScriptText bytes n rules stats) ⊎ ((fault : ScriptTextFault) × IsFirstScriptFault bytes n rules fault)
    go (inl stands) = inl stands
    go (inr (fault, real, is)) = inr (first_of_script bytes n rules fault real is)

-- ---- the rules of a book

-- a rule that the checks can be asked about
abbrev IsAsked : Schema → Rule → Type 0
IsAsked schema rule = IsInRange schema rule × IsTyped schema rule

all_asked : (bytes : List ℕ) (version : ℕ) (schema : Schema) (rules : List Rule) → BookText bytes version schema rules → AllByRecursion (IsAsked schema) rules
all_asked bytes version schema rules stands = recursion_from_All (IsAsked schema) rules (λ k d within. let range = range_from_text bytes version schema rules stands k d within in (range.0, range.2))

lines_made : (schema : Schema) (rules : List Rule) → AllByRecursion (IsAsked schema) rules → (refused : ℕ) × (lines : List ℕ) × AreLines schema rules refused lines
lines_made schema [] all = (0, [], NoRules)
lines_made schema (rule ∷ rules) all = go (accepted_or_fault schema rule all.0.0 all.0.1) (lines_made schema rules all.1)
  where
    go : IsAccepted schema rule ⊎ ((fault : RuleFault) × IsFault schema rule fault) → (refused : ℕ) × (lines : List ℕ) × AreLines schema rules refused lines → (refused : ℕ) × (lines : List ℕ) × AreLines schema (rule ∷ rules) refused lines
    go (inl accepted) (refused, lines, are) = (refusals None + refused, rule_line schema rule None ++ lines, NextRule rule None rules refused lines accepted are)
    go (inr (fault, is)) (refused, lines, are) = (refusals (Some fault) + refused, rule_line schema rule (Some fault) ++ lines, NextRule rule (Some fault) rules refused lines is are)

rules_judged : (schema : Schema) (rules : List Rule) → AllByRecursion (IsAsked schema) rules → AllByRecursion (IsAccepted schema) rules ⊎ ((why : List ℕ) × IsFirstRefused schema rules why)
rules_judged schema [] all = inl tt
rules_judged schema (rule ∷ rules) all = go (accepted_or_fault schema rule all.0.0 all.0.1) (rules_judged schema rules all.1)
  where
    go : IsAccepted schema rule ⊎ ((fault : RuleFault) × IsFault schema rule fault) → AllByRecursion (IsAccepted schema) rules ⊎ ((why : List ℕ) × IsFirstRefused schema rules why)
        → AllByRecursion (IsAccepted schema) (rule ∷ rules) ⊎ ((why : List ℕ) × IsFirstRefused schema (rule ∷ rules) why)
    go (inr (fault, is)) rest = inr (codes "rule " ++ rule.name ++ codes " " ++ rule_fault_words schema rule fault, record { place = 0; rule = rule; rule_at = refl; says = (fault, is, refl); before = λ k other below at. absurd (omega (arith, below)) })
    go (inl accepted) (inl others) = inl (accepted, others)
    go (inl accepted) (inr (why, first)) = inr (why, record { place = suc first.place; rule = first.rule; rule_at = first.rule_at; says = first.says; before = before })
      where
        before : (k : ℕ) (other : Rule) → k < suc first.place → slice_get (rule ∷ rules) k ≡ Some other → IsAccepted schema other
        before zero other below at = subst (IsAccepted schema) (some_same rule other at) accepted
        before (suc k) other below at = first.before k other (omega (arith, below)) at

-- ---- a command on one file

-- the bytes stand for nothing, or something is put
abbrev Comes : List ℕ → Command → Type 0
Comes bytes command = ((why : List ℕ) × IsBad bytes (role_of command) why) ⊎ ((status : ℕ) × (text : List ℕ) × IsOutput bytes command status text)

cells_told : (map : Map) → IsSound map → (text : List ℕ) × TellsCells map text
cells_told map sound =
    let counts = counts_exist map sound.is_map.below sound.generalised in
    let orientation = orientation_exists map sound.is_map.below sound.generalised in
    (counts_text counts.0 ++ orientation_text orientation.0, record { counts = counts.0; counts_are = counts.1; orientation = orientation.0; orientation_is = orientation.1; is = refl })

comes : (bytes : List ℕ) (command : Command) → Comes bytes command
comes bytes Show = go (maps_at_least.stands_or_fault bytes)
  where
    go : ((version : MapVersion) × (listed : ListedMap) × MapText bytes version listed) ⊎ ((fault : TextFault) × IsFirstFault bytes fault) → Comes bytes Show
    go (inl (version, listed, stands)) = inr (0, canonical version listed, Shown version listed stands)
    go (inr (fault, is)) = inl (fault_words fault, BadMap fault is)
comes bytes Cells = go (maps_at_least.stands_or_fault bytes)
  where
    go : ((version : MapVersion) × (listed : ListedMap) × MapText bytes version listed) ⊎ ((fault : TextFault) × IsFirstFault bytes fault) → Comes bytes Cells
    go (inl (version, listed, stands)) = let told = cells_told (map_of listed) stands.sound in inr (0, told.0, Counted version listed told.0 stands told.1)
    go (inr (fault, is)) = inl (fault_words fault, BadMap fault is)
comes bytes Book = go (book_judged bytes)
  where
    go : ((version : ℕ) × (schema : Schema) × (rules : List Rule) × BookText bytes version schema rules) ⊎ ((fault : BookTextFault) × IsFirstBookFault bytes fault) → Comes bytes Book
    go (inl (version, schema, rules, stands)) = inr (0, books.canonical version schema rules, Printed version schema rules stands)
    go (inr (fault, is)) = inl (book_fault_words fault, BadBook fault is)
comes bytes Check = go (book_judged bytes)
  where
    go : ((version : ℕ) × (schema : Schema) × (rules : List Rule) × BookText bytes version schema rules) ⊎ ((fault : BookTextFault) × IsFirstBookFault bytes fault) → Comes bytes Check
    go (inl (version, schema, rules, stands)) =
        let made = lines_made schema rules (all_asked bytes version schema rules stands) in
        inr (check_status made.0, made.1 ++ counts_line (length rules) made.0, Checked version schema rules made.0 made.1 stands made.2)
    go (inr (fault, is)) = inl (book_fault_words fault, BadBook fault is)

file_answered : (files : Files) (command : Command) (name : List ℕ) → HasAnswer (IsFileAnswer files command name)
file_answered files command name = go (at_file files (role_of command) name (λ bytes why. IsBad bytes (role_of command) why))
  where
    failing : (answer : Answer) → IsFailing files (role_of command) name (λ bytes why. IsBad bytes (role_of command) why) answer → IsFileAnswer files command name answer
    failing answer (Missing is e) = NoFile is e
    failing answer (Long bytes is long e) = LongFile bytes is long e
    failing answer (Bad bytes why held bad e) = BadFile bytes why held bad e

    put : (bytes : List ℕ) (status : ℕ) (text : List ℕ) → HasFile files name bytes → IsOutput bytes command status text → (most_bytes < length text) ⊎ (length text ≤ most_bytes) → HasAnswer (IsFileAnswer files command name)
    put bytes status text held output (inl long) = (answers 8 (refusal (codes "size output")), of_file.LongOutput bytes status text held output long refl)
    put bytes status text held output (inr fits) = (answers status text, of_file.Done bytes status text held output fits refl)

    by : (bytes : List ℕ) → HasFile files name bytes → Comes bytes command → HasAnswer (IsFileAnswer files command name)
    by bytes held (inl (why, bad)) = let made = bad_file files (role_of command) name (λ b w. IsBad b (role_of command) w) bytes why held bad in (made.0, failing made.0 made.1)
    by bytes held (inr (status, text, output)) = put bytes status text held output (cases_lt most_bytes (length text))

    go : HasAnswer (IsFailing files (role_of command) name (λ bytes why. IsBad bytes (role_of command) why)) ⊎ ((bytes : List ℕ) × HasFile files name bytes) → HasAnswer (IsFileAnswer files command name)
    go (inl (answer, fails)) = (answer, failing answer fails)
    go (inr (bytes, held)) = by bytes held (comes bytes command)

-- ---- a migration

migrate_answered : (files : Files) (named : MigrateNames) → HasAnswer (IsMigrateAnswer files named)
migrate_answered files named = go (at_file files TheMap named.map IsBadMap)
  where
    put : (listed : ListedMap) → HasMigrated files named listed → (most_bytes < length (migrated_text listed)) ⊎ (length (migrated_text listed) ≤ most_bytes) → HasAnswer (IsMigrateAnswer files named)
    put listed has (inl long) = (answers 8 (refusal (codes "size output")), migrating.LongOutput listed has long refl)
    put listed has (inr fits) = (record { status = 0; text = migrated_line listed; saved = Some (record { name = named.out; bytes = migrated_text listed }) }, migrating.Done listed has fits refl)

    by : (bytes : List ℕ) → HasFile files named.map bytes → ((version : MapVersion) × (listed : ListedMap) × MapText bytes version listed) ⊎ ((fault : TextFault) × IsFirstFault bytes fault) → HasAnswer (IsMigrateAnswer files named)
    by bytes held (inl (version, listed, stands)) = put listed (bytes, version, held, stands) (cases_lt most_bytes (length (migrated_text listed)))
    by bytes held (inr (fault, is)) = let made = bad_file files TheMap named.map IsBadMap bytes (fault_words fault) held (BadMap fault is) in (made.0, migrating.MapFails made.1)

    go : HasAnswer (IsFailing files TheMap named.map IsBadMap) ⊎ ((bytes : List ℕ) × HasFile files named.map bytes) → HasAnswer (IsMigrateAnswer files named)
    go (inl (answer, fails)) = (answer, migrating.MapFails fails)
    go (inr (bytes, held)) = by bytes held (maps_at_least.stands_or_fault bytes)

-- ---- duals

module _ (files : Files) (named : DualNames) where
  -- both files are good
  duals_put : (inputs : DualInputs) → HasDualMap files named inputs → HasDualBook files named inputs → HasAnswer (IsDualAnswer files named)
  duals_put inputs the_map the_book = put (cases_lt most_bytes (length text))
    where
      dual : (dual : ListedMap) × IsListedDual inputs.map dual
      dual = dual_of_text the_map.0 inputs.version inputs.map the_map.2

      text : List ℕ
      text = canonical inputs.version dual.0 ++ books.canonical inputs.book_version (dual_schema inputs.schema) (map (dual_rule inputs.schema.dim) inputs.rules)

      good : IsGoodDual files named text
      good = record {
        inputs = inputs;
        the_map = the_map;
        the_book = the_book;
        is_text = record { of_map = canonical inputs.version dual.0; of_map_is = (dual.0, dual.1, refl); is = refl };
      }

      put : (most_bytes < length text) ⊎ (length text ≤ most_bytes) → HasAnswer (IsDualAnswer files named)
      put (inl long) = (answers 8 (refusal (codes "size output")), duals.LongOutput text good long refl)
      put (inr fits) = (answers 0 text, duals.Done text good fits refl)

  dual_book : (version : MapVersion) (listed : ListedMap) (map_bytes : List ℕ) → HasFile files named.map map_bytes → MapText map_bytes version listed → HasAnswer (IsDualAnswer files named)
  dual_book version listed map_bytes map_held map_stands = go (at_file files TheBook named.book IsBadBookText)
    where
      with_rules : ℕ → Schema → List Rule → DualInputs
      with_rules book_version schema rules = record { version = version; map = listed; book_version = book_version; schema = schema; rules = rules }

      fails : HasAnswer (IsFailing files TheBook named.book IsBadBookText) → HasAnswer (IsDualAnswer files named)
      fails (answer, failing) = (answer, duals.BookFails (with_rules 0 listed.schema []) (map_bytes, map_held, map_stands) failing)

      by : (bytes : List ℕ) → HasFile files named.book bytes → ((book_version : ℕ) × (schema : Schema) × (rules : List Rule) × BookText bytes book_version schema rules) ⊎ ((fault : BookTextFault) × IsFirstBookFault bytes fault) → HasAnswer (IsDualAnswer files named)
      by bytes held (inl (book_version, schema, rules, stands)) = duals_put (with_rules book_version schema rules) (map_bytes, map_held, map_stands) (bytes, held, stands)
      by bytes held (inr (fault, is)) = fails (bad_file files TheBook named.book IsBadBookText bytes (book_fault_words fault) held (BadBook fault is))

      go : HasAnswer (IsFailing files TheBook named.book IsBadBookText) ⊎ ((bytes : List ℕ) × HasFile files named.book bytes) → HasAnswer (IsDualAnswer files named)
      go (inl failing) = fails failing
      go (inr (bytes, held)) = by bytes held (book_judged bytes)

  dual_answered : HasAnswer (IsDualAnswer files named)
  dual_answered = go (at_file files TheMap named.map IsBadMap)
    where
      by : (bytes : List ℕ) → HasFile files named.map bytes → ((version : MapVersion) × (listed : ListedMap) × MapText bytes version listed) ⊎ ((fault : TextFault) × IsFirstFault bytes fault) → HasAnswer (IsDualAnswer files named)
      by bytes held (inl (version, listed, stands)) = dual_book version listed bytes held stands
      by bytes held (inr (fault, is)) = let made = bad_file files TheMap named.map IsBadMap bytes (fault_words fault) held (BadMap fault is) in (made.0, duals.MapFails made.1)

      go : HasAnswer (IsFailing files TheMap named.map IsBadMap) ⊎ ((bytes : List ℕ) × HasFile files named.map bytes) → HasAnswer (IsDualAnswer files named)
      go (inl (answer, failing)) = (answer, duals.MapFails failing)
      go (inr (bytes, held)) = by bytes held (maps_at_least.stands_or_fault bytes)

-- ---- a run

module _ (files : Files) (named : RunNames) where
  -- all files are good
  at_end : (inputs : Inputs) → HasMap files named inputs → HasBook files named inputs → HasScript files named inputs → HasAnswer (IsRunAnswer files named)
  at_end inputs the_map the_book the_script = go (same_schema inputs.map.schema inputs.schema)
    where
      put : (ran : Ran) → IsGoodRun files named inputs ran → (most_bytes < length (report_of inputs ran)) ⊎ (length (report_of inputs ran) ≤ most_bytes) → (most_bytes < length (saved_of inputs ran)) ⊎ (length (saved_of inputs ran) ≤ most_bytes) → HasAnswer (IsRunAnswer files named)
      put ran good (inl long) side = (answers 8 (refusal (codes "size output")), running.LongOutput inputs ran good (inl long) refl)
      put ran good (inr fits) (inl long) = (answers 8 (refusal (codes "size output")), running.LongOutput inputs ran good (inr long) refl)
      put ran good (inr fits) (inr also) = (
        record { status = run_status ran.outcomes; text = report_of inputs ran; saved = Some (record { name = named.out; bytes = saved_of inputs ran }) },
        running.Done inputs ran good fits also refl,
      )

      go : IsDecided (Agree inputs) → HasAnswer (IsRunAnswer files named)
      go (inl agree) = let made : (ran : Ran) × IsGoodRun files named inputs ran = run_made files named inputs the_map the_book the_script agree in put made.0 made.1 (cases_lt most_bytes (length (report_of inputs made.0))) (cases_lt most_bytes (length (saved_of inputs made.0)))
      go (inr never) = (answers 4 (refusal (codes "agree")), Disagree inputs the_map the_book the_script never refl)

  module _ (version : MapVersion) (listed : ListedMap) (map_bytes : List ℕ) (map_held : HasFile files named.map map_bytes) (map_stands : MapText map_bytes version listed) where
    abbrev with_book : Schema → List Rule → List Stat → Inputs
    with_book schema rules stats = record { version = version; map = listed; schema = schema; rules = rules; stats = stats }

    at_script : (book_bytes : List ℕ) (book_version : ℕ) (schema : Schema) (rules : List Rule) → HasFile files named.book book_bytes → BookText book_bytes book_version schema rules → All (IsAccepted schema) rules → HasAnswer (IsRunAnswer files named)
    at_script book_bytes book_version schema rules book_held book_stands accepted = go (at_file files TheScript named.script (IsBadScript schema.dim rules))
      where
        fails : HasAnswer (IsFailing files TheScript named.script (IsBadScript schema.dim rules)) → HasAnswer (IsRunAnswer files named)
        fails (answer, failing) = (answer, ScriptFails (with_book schema rules []) (map_bytes, map_held, map_stands) (book_bytes, book_version, book_held, book_stands, accepted) failing)

        by : (bytes : List ℕ) → HasFile files named.script bytes → ((stats : List Stat) × ScriptText bytes schema.dim rules stats) ⊎ ((fault : ScriptTextFault) × IsFirstScriptFault bytes schema.dim rules fault) → HasAnswer (IsRunAnswer files named)
        by bytes held (inl (stats, stands)) = at_end (with_book schema rules stats) (map_bytes, map_held, map_stands) (book_bytes, book_version, book_held, book_stands, accepted) (bytes, held, stands)
        by bytes held (inr (fault, is)) = fails (bad_file files TheScript named.script (IsBadScript schema.dim rules) bytes (script_fault_words fault) held (fault, is, refl))

        go : HasAnswer (IsFailing files TheScript named.script (IsBadScript schema.dim rules)) ⊎ ((bytes : List ℕ) × HasFile files named.script bytes) → HasAnswer (IsRunAnswer files named)
        go (inl failing) = fails failing
        go (inr (bytes, held)) = by bytes held (script_judged bytes schema.dim rules)

    at_book : HasAnswer (IsRunAnswer files named)
    at_book = go (at_file files TheBook named.book IsBadBook)
      where
        no_schema : Schema
        no_schema = listed.schema

        fails : HasAnswer (IsFailing files TheBook named.book IsBadBook) → HasAnswer (IsRunAnswer files named)
        fails (answer, failing) = (answer, BookFails (with_book no_schema [] []) (map_bytes, map_held, map_stands) failing)

        checked : (bytes : List ℕ) (book_version : ℕ) (schema : Schema) (rules : List Rule) → HasFile files named.book bytes → BookText bytes book_version schema rules → AllByRecursion (IsAccepted schema) rules ⊎ ((why : List ℕ) × IsFirstRefused schema rules why) → HasAnswer (IsRunAnswer files named)
        checked bytes book_version schema rules held stands (inl accepted) = at_script bytes book_version schema rules held stands (All-from_recursion (IsAccepted schema) rules accepted)
        checked bytes book_version schema rules held stands (inr (why, first)) = fails (bad_file files TheBook named.book IsBadBook bytes why held (RuleRefused book_version schema rules stands first))

        by : (bytes : List ℕ) → HasFile files named.book bytes → ((book_version : ℕ) × (schema : Schema) × (rules : List Rule) × BookText bytes book_version schema rules) ⊎ ((fault : BookTextFault) × IsFirstBookFault bytes fault) → HasAnswer (IsRunAnswer files named)
        by bytes held (inl (book_version, schema, rules, stands)) = checked bytes book_version schema rules held stands (rules_judged schema rules (all_asked bytes book_version schema rules stands))
        by bytes held (inr (fault, is)) = fails (bad_file files TheBook named.book IsBadBook bytes (book_fault_words fault) held (Unread (BadBook fault is)))

        go : HasAnswer (IsFailing files TheBook named.book IsBadBook) ⊎ ((bytes : List ℕ) × HasFile files named.book bytes) → HasAnswer (IsRunAnswer files named)
        go (inl failing) = fails failing
        go (inr (bytes, held)) = by bytes held (book_judged bytes)

  run_answered : HasAnswer (IsRunAnswer files named)
  run_answered = go (at_file files TheMap named.map IsBadMap)
    where
      by : (bytes : List ℕ) → HasFile files named.map bytes → ((version : MapVersion) × (listed : ListedMap) × MapText bytes version listed) ⊎ ((fault : TextFault) × IsFirstFault bytes fault) → HasAnswer (IsRunAnswer files named)
      by bytes held (inl (version, listed, stands)) = at_book version listed bytes held stands
      by bytes held (inr (fault, is)) = let made = bad_file files TheMap named.map IsBadMap bytes (fault_words fault) held (BadMap fault is) in (made.0, MapFails made.1)

      go : HasAnswer (IsFailing files TheMap named.map IsBadMap) ⊎ ((bytes : List ℕ) × HasFile files named.map bytes) → HasAnswer (IsRunAnswer files named)
      go (inl (answer, failing)) = (answer, MapFails failing)
      go (inr (bytes, held)) = by bytes held (maps_at_least.stands_or_fault bytes)

-- ---- all words

asked_file : (words : List (List ℕ)) → IsDecided (IsFileCommand words)
asked_file words = go (decide_file words Show) (decide_file words Book) (decide_file words Check) (decide_file words Cells)
  where
    Asked : Command → Type 0
    Asked command = IsDecided ((name : List ℕ) × Asks words command name)

    none : (((name : List ℕ) × Asks words Show name) → ⊥) → (((name : List ℕ) × Asks words Book name) → ⊥) → (((name : List ℕ) × Asks words Check name) → ⊥) → (((name : List ℕ) × Asks words Cells name) → ⊥)
        → (command : Command) (name : List ℕ) → Asks words command name → ⊥
    none a b c d Show name asks = a (name, asks)
    none a b c d Book name asks = b (name, asks)
    none a b c d Check name asks = c (name, asks)
    none a b c d Cells name asks = d (name, asks)

    go : IsDecided ((name : List ℕ) × Asks words Show name) → IsDecided ((name : List ℕ) × Asks words Book name) → IsDecided ((name : List ℕ) × Asks words Check name) → IsDecided ((name : List ℕ) × Asks words Cells name) → IsDecided (IsFileCommand words)
    go (inl (name, asks)) b c d = inl (Show, name, asks)
    go (inr a) (inl (name, asks)) c d = inl (Book, name, asks)
    go (inr a) (inr b) (inl (name, asks)) d = inl (Check, name, asks)
    go (inr a) (inr b) (inr c) (inl (name, asks)) = inl (Cells, name, asks)
    go (inr a) (inr b) (inr c) (inr d) = inr (λ (command, name, asks). none a b c d command name asks)

pub all_answered : (words : List (List ℕ)) (files : Files) → HasAnswer (IsAnswer words files)
all_answered words files = go (asked_file words) (decide_run words) (decide_migrate words) (decide_dual words) (decide_grid words)
  where
    never : (IsFileCommand words → ⊥) → (IsRunCommand words → ⊥) → (IsMigrateCommand words → ⊥) → (IsDualCommand words → ⊥) → (IsGridCommand words → ⊥) → IsCommand words → ⊥
    never a b c d e (inl h) = a h
    never a b c d e (inr (inl (inl h))) = b h
    never a b c d e (inr (inl (inr h))) = c h
    never a b c d e (inr (inr (inl h))) = d h
    never a b c d e (inr (inr (inr h))) = e h

    go : IsDecided (IsFileCommand words) → IsDecided (IsRunCommand words) → IsDecided (IsMigrateCommand words) → IsDecided (IsDualCommand words) → IsDecided (IsGridCommand words) → HasAnswer (IsAnswer words files)
    go (inl (command, name, asks)) b c d e = let made = file_answered files command name in (made.0, OfFile command name asks made.1)
    go (inr a) (inl (named, asks)) c d e = let made = run_answered files named in (made.0, OfRun named asks made.1)
    go (inr a) (inr b) (inl (named, asks)) d e = let made = migrate_answered files named in (made.0, OfMigrate named asks made.1)
    go (inr a) (inr b) (inr c) (inl (named, asks)) e = let made = dual_answered files named in (made.0, OfDual named asks made.1)
    go (inr a) (inr b) (inr c) (inr d) (inl (m, asks)) = let made = grid_answered m asks.greatest in (made.0, OfGrid m asks made.1)
    go (inr a) (inr b) (inr c) (inr d) (inr e) = (answers 2 (refusal (codes "usage")), Usage (never a b c d e) refl)

-- so the answer is a function of words and files, and the one that the definition gives
pub answer_given : (words : List (List ℕ)) (files : Files) (answer : Answer) → IsAnswer words files answer ↔ (answer ≡ (all_answered words files).0)
answer_given words files answer = (
  λ is. one_answer words files answer (all_answered words files).0 is (all_answered words files).1,
  λ e. subst (IsAnswer words files) (sym e) (all_answered words files).1,
)
