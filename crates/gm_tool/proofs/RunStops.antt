-- Why a run stops before anything is saved, file by file.
use Rattle.std.proofs.Common.{◌≡◌, ◌⊎◌, ℕ, ◌≤◌, List, [], inl, inr, Some, None, Result, Ok, Err, map, All, refl, sym, ap, subst, ◌∙◌, ◌+◌, arith}
use Rattle.std.specs.Prelude.{IfSome}
use Rattle.gm_host.specs.Count.{counted, Rises}
use Rattle.gm_host.specs.Store.{Contents, Lacks}
use Rattle.gm_mapfile.specs.inner.Rows.{listed_of}
use Rattle.gm_mapfile.specs.declared.reading.MapRead.{MapRead}
use Rattle.gm_model.specs.declared.rule.Book.{Book}
use Rattle.gm_model.specs.declared.schema.Schema.{Schema}
use Rattle.gm_model.specs.declared.script.Script.{Script}
use Rattle.gm_model.specs.Acceptance.{IsAccepted}
use Rattle.gm_model.specs.Rules.{Rule, rule_of}
use Rattle.gm_tool.specs.Answer.{Files, answers, HasFile}
use Rattle.gm_lines.specs.Refusing.{Role, TheMap, TheBook, TheScript}
use Rattle.gm_tool.specs.inner.Begun.{Counts, HasBegun}
use Rattle.gm_tool.specs.Loads.{load_of, file_of, PassesAt, LoadsInOrder, IsUnloaded}
use Rattle.gm_tool.specs.MadeRuns.{inputs_of, IsRunOf, IsMade, IsStopOf, LoadsAtMostThrice}
use Rattle.gm_tool.specs.inner.Refusals.{refusal_answer}
use Rattle.gm_tool.specs.RunAnswer.{RunNames, Inputs, HasMap, HasBook, HasScript, Agree, IsBadMap, IsBadBook, IsBadScript, IsFirstRefused, RuleRefused, Bad, MapFails, BookFails, ScriptFails, Disagree, LongOutput}
use Rattle.gm_tool.specs.StepBounds.{ReadsWithin}
use Rattle.gm_tool.specs.inner.Stops.{IsBadFor, IsRoleStop, IsReadMap, IsReadBook, IsReadScript, IsFrom}
use Rattle.gm_tool.specs.declared.refusal.NoText.TheVariants as nothing
use Rattle.gm_tool.specs.declared.refusal.Refusal.TheVariants as refusals
use Rattle.gm_tool.specs.declared.refusal.Stop.{Stop}
use Rattle.gm_tool.specs.declared.refusal.Stop.TheVariants as stops
use Rattle.gm_tool.specs.declared.running.Made.{Made}

-- a count that rises in a later call rises over both
pub rises_later : (before between after : ℕ) → before ≤ between → Rises between after → Rises before after
rises_later before between after up (inl more) = inl (omega (arith, up, more))
rises_later before between after up (inr full) = inr full

module _ (named : RunNames) (load_fails : ℕ → Type 0) where
  module _ (files : Files) where
    -- ---- each file

    map_stop : (later : Type 0) → (later → load_fails 1) → (stop : Stop) → IsRoleStop files TheMap named.map IsBadMap later stop → IsStopOf files named load_fails stop
    map_stop later up (stops.Bad line) h = MapFails h
    map_stop later up (stops.NoText nothing.OutOfMemory) h = tt
    map_stop later up (stops.NoText (nothing.Refused why)) (inl h) = inl (MapFails h)
    map_stop later up (stops.NoText (nothing.Refused why)) (inr h) = inr (TheMap, up h.0, tt, h.1)

    module _ (inputs : Inputs) (the_map : HasMap files named inputs) where
      book_stop : (later : Type 0) → (later → load_fails 2) → (stop : Stop) → IsRoleStop files TheBook named.book IsBadBook later stop → IsStopOf files named load_fails stop
      book_stop later up (stops.Bad line) h = BookFails inputs the_map h
      book_stop later up (stops.NoText nothing.OutOfMemory) h = tt
      book_stop later up (stops.NoText (nothing.Refused why)) (inl h) = inl (BookFails inputs the_map h)
      book_stop later up (stops.NoText (nothing.Refused why)) (inr h) = inr (TheBook, up h.0, (inputs, the_map), h.1)

      module _ (the_book : HasBook files named inputs) where
        script_stop : (later : Type 0) → (later → load_fails 3) → (stop : Stop) → IsRoleStop files TheScript named.script (IsBadScript inputs.schema.dim inputs.rules) later stop → IsStopOf files named load_fails stop
        script_stop later up (stops.Bad line) h = ScriptFails inputs the_map the_book h
        script_stop later up (stops.NoText nothing.OutOfMemory) h = tt
        script_stop later up (stops.NoText (nothing.Refused why)) (inl h) = inl (ScriptFails inputs the_map the_book h)
        script_stop later up (stops.NoText (nothing.Refused why)) (inr h) = inr (TheScript, up h.0, (inputs, the_map, the_book), h.1)

  -- a rule of a book that was read isn't accepted
  rule_stop : (files : Files) (inputs : Inputs) → HasMap files named inputs → (bytes : List ℕ) (book : Book) → HasFile files named.book bytes → IsReadBook bytes book
      → (stop : Stop) → IsBadFor TheBook (IsFirstRefused book.schema (map rule_of book.rules)) stop → IsStopOf files named load_fails stop
  rule_stop files inputs the_map bytes book held read (stops.Bad line) (why, first, is) =
      BookFails inputs the_map (Bad bytes why held (RuleRefused book.version book.schema (map rule_of book.rules) read first) (ap (λ text. answers 4 text) is))
  rule_stop files inputs the_map bytes book held read (stops.NoText nothing.OutOfMemory) h = tt
  rule_stop files inputs the_map bytes book held read (stops.NoText (nothing.Refused why)) h = absurd h

-- the inputs, as far as they are known
abbrev pub known : MapRead → Schema → List Rule → Inputs
known m schema rules = record { version = m.version; map = listed_of m.arena; schema = schema; rules = rules; stats = [] }

-- ---- the exits of a run, wherever the store tells

module _ (named : RunNames) (load_fails : ℕ → Type 0) where
  pub at_map : (contents : Contents) (later : Type 0) (stop : Stop) → (later → load_fails 1) → IsFrom {A = MapRead} contents TheMap named.map IsReadMap IsBadMap later (Err stop) → IfSome contents (λ files. IsMade files named load_fails (Err stop))
  at_map None later stop up h = tt
  at_map (Some files) later stop up h = map_stop named load_fails files later up stop h.0

  pub at_book : (contents : Contents) (m : MapRead) (one later : Type 0) (stop : Stop) → (later → load_fails 2) → IsFrom contents TheMap named.map IsReadMap IsBadMap one (Ok m)
      → IsFrom {A = Book} contents TheBook named.book IsReadBook IsBadBook later (Err stop) → IfSome contents (λ files. IsMade files named load_fails (Err stop))
  at_book None m one later stop up f h = tt
  at_book (Some files) m one later stop up (bytes, held, read) h = book_stop named load_fails files (known m m.arena.schema []) (bytes, held, read.stands) later up stop h.0

  pub at_rules : (contents : Contents) (m : MapRead) (book : Book) (one two : Type 0) (stop : Stop) → IsFrom contents TheMap named.map IsReadMap IsBadMap one (Ok m) → IsFrom contents TheBook named.book IsReadBook IsBadBook two (Ok book)
      → IsBadFor TheBook (IsFirstRefused book.schema (map rule_of book.rules)) stop → IfSome contents (λ files. IsMade files named load_fails (Err stop))
  at_rules None m book one two stop h g bad = tt
  at_rules (Some files) m book one two stop (bytes, held, read) (text, there, is) bad = rule_stop named load_fails files (known m m.arena.schema []) (bytes, held, read.stands) text book there is stop bad

  pub at_script : (contents : Contents) (m : MapRead) (book : Book) (one two later : Type 0) (stop : Stop) → (later → load_fails 3) → IsFrom contents TheMap named.map IsReadMap IsBadMap one (Ok m)
      → IsFrom contents TheBook named.book IsReadBook IsBadBook two (Ok book) → All (IsAccepted book.schema) (map rule_of book.rules)
      → IsFrom {A = Script} contents TheScript named.script (IsReadScript book.schema.dim (map rule_of book.rules)) (IsBadScript book.schema.dim (map rule_of book.rules)) later (Err stop) → IfSome contents (λ files. IsMade files named load_fails (Err stop))
  at_script None m book one two later stop up f g accepted h = tt
  at_script (Some files) m book one two later stop up (bytes, held, read) (text, there, is) accepted h =
      script_stop named load_fails files (known m book.schema (map rule_of book.rules)) (bytes, held, read.stands) (text, book.version, there, is, accepted) later up stop h.0

  -- all three files are read
  module _ (contents : Contents) (m : MapRead) (book : Book) (script : Script) (one two three : Type 0) (the_map : IsFrom contents TheMap named.map IsReadMap IsBadMap one (Ok m))
      (the_book : IsFrom contents TheBook named.book IsReadBook IsBadBook two (Ok book)) (accepted : All (IsAccepted book.schema) (map rule_of book.rules))
      (the_script : IsFrom contents TheScript named.script (IsReadScript book.schema.dim (map rule_of book.rules)) (IsBadScript book.schema.dim (map rule_of book.rules)) three (Ok script)) where
    pub at_agreement : (Agree (inputs_of m.version m.arena book script) → ⊥) → IfSome contents (λ files. IsMade files named load_fails (Err (stops.NoText (nothing.Refused refusals.Agree))))
    at_agreement no_agreement = go contents the_map the_book the_script
      where
        go : (c : Contents) → IsFrom c TheMap named.map IsReadMap IsBadMap one (Ok m) → IsFrom c TheBook named.book IsReadBook IsBadBook two (Ok book)
            → IsFrom c TheScript named.script (IsReadScript book.schema.dim (map rule_of book.rules)) (IsBadScript book.schema.dim (map rule_of book.rules)) three (Ok script) → IfSome c (λ files. IsMade files named load_fails (Err (stops.NoText (nothing.Refused refusals.Agree))))
        go None f g h = tt
        go (Some files) (bytes, held, read) (text, there, is) h = inl (Disagree (inputs_of m.version m.arena book script) (bytes, held, read.stands) (text, book.version, there, is, accepted) h no_agreement refl)

    pub at_end : Agree (inputs_of m.version m.arena book script) → (result : Result Made Stop) → IsRunOf (inputs_of m.version m.arena book script) result → IfSome contents (λ files. IsMade files named load_fails result)
    at_end agree result made = go contents the_map the_book the_script
      where
        run : (files : Files) → HasMap files named (inputs_of m.version m.arena book script) → HasBook files named (inputs_of m.version m.arena book script) → HasScript files named (inputs_of m.version m.arena book script) → (r : Result Made Stop) → IsRunOf (inputs_of m.version m.arena book script) r → IsMade files named load_fails r
        run files a b c (Ok value) (ran, is, fits) = (inputs_of m.version m.arena book script, ran, record { the_map = a; the_book = b; the_script = c; agree = agree; is_ran = is }, fits)
        run files a b c (Err (stops.NoText nothing.OutOfMemory)) h = tt
        run files a b c (Err (stops.NoText (nothing.Refused why))) (ran, is, (e, long)) =
            let same : why ≡ refusals.SizeOutput = cc in
            inl (LongOutput (inputs_of m.version m.arena book script) ran (record { the_map = a; the_book = b; the_script = c; agree = agree; is_ran = is }) long (ap refusal_answer same))
        run files a b c (Err (stops.Bad line)) (ran, is, (e, long)) = absurd cc

        go : (c : Contents) → IsFrom c TheMap named.map IsReadMap IsBadMap one (Ok m) → IsFrom c TheBook named.book IsReadBook IsBadBook two (Ok book)
            → IsFrom c TheScript named.script (IsReadScript book.schema.dim (map rule_of book.rules)) (IsBadScript book.schema.dim (map rule_of book.rules)) three (Ok script) → IfSome c (λ files. IsMade files named load_fails result)
        go None f g h = tt
        go (Some files) (bytes, held, read) (text, there, is) h = run files (bytes, held, read.stands) (text, book.version, there, is, accepted) h result made

-- ---- map and book are read

pub has_begun : (contents : Contents) (named : RunNames) (m : MapRead) (book : Book) → IsFrom contents TheMap named.map IsReadMap IsBadMap (Unit {0}) (Ok m) → IsFrom contents TheBook named.book IsReadBook IsBadBook (Unit {0}) (Ok book)
    → (start : Counts) (between faults once loads steps : ℕ) → start.faults ≤ between → between ≤ faults → once ≡ counted start.loads → loads ≡ counted once → ReadsWithin contents named.map start.steps steps → start.steps + m.arena.count ≤ steps
    → HasBegun contents named m book start faults loads steps
has_begun contents named m book the_map the_book start between faults once loads steps up more first second most least = record {
  the_map = the_map;
  the_book = the_book;
  faults_never_fall = omega (arith, up, more);
  twice = second ∙ ap counted first;
  most = most;
  least = least;
}

-- ---- loads, in their order

module _ (contents : Contents) (named : RunNames) where
  pub passes_map : PassesAt contents named TheMap
  passes_map = go contents
    where
      go : (c : Contents) → PassesAt c named TheMap
      go None = tt
      go (Some files) = tt

  pub passes_book : (m : MapRead) (one : Type 0) → IsFrom contents TheMap named.map IsReadMap IsBadMap one (Ok m) → PassesAt contents named TheBook
  passes_book m one the_map = go contents the_map
    where
      go : (c : Contents) → IsFrom c TheMap named.map IsReadMap IsBadMap one (Ok m) → PassesAt c named TheBook
      go None f = tt
      go (Some files) (bytes, held, read) = (known m m.arena.schema [], (bytes, held, read.stands))

  pub passes_script : (m : MapRead) (book : Book) (one two : Type 0) → IsFrom contents TheMap named.map IsReadMap IsBadMap one (Ok m) → IsFrom contents TheBook named.book IsReadBook IsBadBook two (Ok book)
      → All (IsAccepted book.schema) (map rule_of book.rules) → PassesAt contents named TheScript
  passes_script m book one two the_map the_book accepted = go contents the_map the_book
    where
      go : (c : Contents) → IsFrom c TheMap named.map IsReadMap IsBadMap one (Ok m) → IsFrom c TheBook named.book IsReadBook IsBadBook two (Ok book) → PassesAt c named TheScript
      go None f g = tt
      go (Some files) (bytes, held, read) (text, there, is) = (known m book.schema (map rule_of book.rules), (bytes, held, read.stands), (text, book.version, there, is, accepted))

  -- why the file of a role isn't loaded, where each before it is good
  pub unloaded : (load_fails : ℕ → Type 0) (role : Role) (fails : Type 0) → PassesAt contents named role → (fails → load_fails (load_of role))
      → (other : Role) → (other ≡ role) × (fails ⊎ Lacks contents (file_of named role)) → IsUnloaded contents named load_fails other
  unloaded load_fails role fails passes up other (e, cause) =
      subst (IsUnloaded contents named load_fails) (sym e) (passes, elim cause [ inl failed ↦ inl (up failed) | inr lacks ↦ inr lacks ])

-- ordered loads are three at most
pub thrice_at_most : (contents : Contents) (named : RunNames) (before after : ℕ) → LoadsInOrder contents named before after → LoadsAtMostThrice before after
thrice_at_most contents named before after (TheMap, passes, is) = inr (inl is)
thrice_at_most contents named before after (TheBook, passes, is) = inr (inr (inl is))
thrice_at_most contents named before after (TheScript, passes, is) = inr (inr (inr is))
