-- What `dual` answers to the names of its files: the status, and the texts of the duals of the map and of the book.
use Rattle.std.specs.Prelude.{◌≡◌, ◌⊎◌, ℕ, ◌<◌, ◌≤◌, List, [], ◌∷◌, ◌++◌, length, map, Result, Ok, Err, IfSome, codes}
use Rattle.std.specs.List.{AllByRecursion}
use Rattle.std.specs.List.Sorted.{IsStrictlyIncreasing}
use Rattle.std.specs.Global.{Vec}
use Rattle.gm_arena.specs.inner.ArenaMap.{ArenaMap}
use Rattle.gm_book.specs.Canonical as books
use Rattle.gm_dual.specs.Duals.{dual_map, dual_rule, dual_schema}
use Rattle.gm_forms.specs.BookText.{BookText}
use Rattle.gm_host.specs.Store.{Contents, Lacks}
use Rattle.gm_lines.specs.Refusing.{Role, TheMap, TheBook, TheScript, role_word, refusal}
use Rattle.gm_mapfile.specs.MapReading.{IsWhole}
use Rattle.gm_mapfile.specs.MapText.{ListedMap, MapText, map_of, canonical, names}
use Rattle.gm_mapfile.specs.inner.Rows.{listed_of}
use Rattle.gm_mapfile.specs.declared.version.MapVersion.{MapVersion}
use Rattle.gm_model.specs.declared.rule.Book.{Book}
use Rattle.gm_model.specs.declared.schema.Schema.{Schema}
use Rattle.gm_model.specs.Rules.{Rule, rule_of}
use Rattle.gm_tool.specs.Answer.{most_bytes, Files, Answer, answers, HasFile}
use Rattle.gm_tool.specs.Endings.{IsTextOf}
use Rattle.gm_tool.specs.Loads.{FailsHere, LoadsUpTo, load_of, loads_after}
use Rattle.gm_tool.specs.MadeRuns.{IsStopFor}
use Rattle.gm_tool.specs.RunAnswer.{IsFailing, IsBadMap, IsBadBookText}
use Rattle.gm_tool.specs.declared.command.DualFiles.{DualFiles}
use Rattle.gm_tool.specs.declared.refusal.NoText.{NoText}
use Rattle.gm_tool.specs.declared.refusal.Stop.{Stop}
use Rattle.gm_tool.specs.declared.reply.Reply.{Reply}

-- the files that are read
pub record DualNames : Type 0 where
  pub map : List ℕ
  pub book : List ℕ

abbrev pub AsksDual : List (List ℕ) → DualNames → Type 0
AsksDual words named = words ≡ codes "dual" ∷ named.map ∷ named.book ∷ []

abbrev pub dual_names_of : DualFiles → DualNames
dual_names_of files = record { map = files.map.now; book = files.book.now }

-- ---- the text

-- what the files stand for
pub record DualInputs : Type 0 where
  pub version : MapVersion
  pub map : ListedMap
  pub book_version : ℕ
  pub schema : Schema
  pub rules : List Rule

module _ (files : Files) (named : DualNames) (inputs : DualInputs) where
  abbrev pub HasDualMap : Type 0
  HasDualMap = (bytes : List ℕ) × HasFile files named.map bytes × MapText bytes inputs.version inputs.map

  -- whether its rules are accepted or not, and whatever the schema of the map
  abbrev pub HasDualBook : Type 0
  HasDualBook = (bytes : List ℕ) × HasFile files named.book bytes × BookText bytes inputs.book_version inputs.schema inputs.rules

-- the dual of the map, its darts in ascending order of their names
pub record IsListedDual (listed dual : ListedMap) : Type 0 where
  pub is : map_of dual ≡ dual_map (map_of listed)
  pub ascending : IsStrictlyIncreasing (names dual.darts)
  pub whole : AllByRecursion (IsWhole dual.schema) dual.darts

-- the canonical text of the dual of the map, in this version
abbrev pub IsDualMapText : MapVersion → ListedMap → List ℕ → Type 0
IsDualMapText version listed text = (dual : ListedMap) × IsListedDual listed dual × (text ≡ canonical version dual)

-- the text of the dual of the map, directly followed by that of the dual of the book, each in the version of its file
pub record IsDualText (inputs : DualInputs) (text : List ℕ) : Type 0 where
  pub of_map : List ℕ
  pub of_map_is : IsDualMapText inputs.version inputs.map of_map
  pub is : text ≡ of_map ++ books.canonical inputs.book_version (dual_schema inputs.schema) (map (dual_rule inputs.schema.dim) inputs.rules)

-- ---- the answer

-- both files are good, and this is the text of their duals
pub record IsGoodDual (files : Files) (named : DualNames) (text : List ℕ) : Type 0 where
  pub inputs : DualInputs
  pub the_map : HasDualMap files named inputs
  pub the_book : HasDualBook files named inputs
  pub is_text : IsDualText inputs text

-- The files are taken in their order, and the first that fails decides. One rule for each case; no two of them fit the same files and names.
pub data IsDualAnswer (files : Files) (named : DualNames) (answer : Answer) : Type 0 where
  MapFails : IsFailing files TheMap named.map IsBadMap answer → IsDualAnswer files named answer
  BookFails : (inputs : DualInputs) → HasDualMap files named inputs → IsFailing files TheBook named.book IsBadBookText answer → IsDualAnswer files named answer
  LongOutput : (text : List ℕ) → IsGoodDual files named text → most_bytes < length text → answer ≡ answers 8 (refusal (codes "size output")) → IsDualAnswer files named answer
  Done : (text : List ℕ) → IsGoodDual files named text → length text ≤ most_bytes → answer ≡ answers 0 text → IsDualAnswer files named answer

-- ---- the loads

-- each file that is taken before that of the role is good
abbrev pub PassesDualTo : Files → DualNames → Role → Type 0
PassesDualTo files named TheMap = Unit {0}
PassesDualTo files named TheBook = (inputs : DualInputs) × HasDualMap files named inputs
PassesDualTo files named TheScript = ⊥

abbrev pub PassesDualAt : Contents → DualNames → Role → Type 0
PassesDualAt contents named TheScript = ⊥
PassesDualAt contents named role = IfSome contents (λ files. PassesDualTo files named role)

abbrev pub dual_file_of : DualNames → Role → List ℕ
dual_file_of named TheMap = named.map
dual_file_of named _ = named.book

-- one load for each file up to that of some role, each good but perhaps the last
abbrev pub DualLoadsInOrder : Contents → DualNames → ℕ → ℕ → Type 0
DualLoadsInOrder contents named before after = LoadsUpTo (PassesDualAt contents named) before after

-- the load of the role's file failed, or the store lacks that file; and each file before it is good
abbrev pub IsDualUnloaded : Contents → DualNames → (ℕ → Type 0) → Role → Type 0
IsDualUnloaded contents named load_fails role = PassesDualAt contents named role × (load_fails (load_of role) ⊎ Lacks contents (dual_file_of named role))

-- The last load, counted from 1: of the map where that fails, else of the book. `fails` says that the count of failed loads rose.
pub data DualStopsBehind (files : Files) (named : DualNames) (fails : Type 0) : ℕ → Type 0 where
  BehindMap : FailsHere files TheMap named.map IsBadMap fails → DualStopsBehind files named fails 1
  BehindBook : (inputs : DualInputs) → HasDualMap files named inputs → DualStopsBehind files named fails 2

abbrev pub DualStopsInTime : Files → DualNames → Type 0 → ℕ → ℕ → Type 0
DualStopsInTime files named fails before after = (last : ℕ) × DualStopsBehind files named fails last × (after ≡ loads_after last before)

-- where the words are `dual` and the store tells, there are as many loads as that
abbrev pub CountsDualLoads : List (List ℕ) → Contents → Type 0 → ℕ → ℕ → Type 0
CountsDualLoads words contents fails before after = IfSome contents (λ files. (named : DualNames) → AsksDual words named → DualStopsInTime files named fails before after)

-- the answer to a load that failed, of a file before which none fails
abbrev pub IsDualLoadFailure : Files → DualNames → (ℕ → Type 0) → Answer → Type 0
IsDualLoadFailure files named load_fails given = (role : Role) × load_fails (load_of role) × PassesDualTo files named role × (given ≡ answers 3 (refusal (codes "load " ++ role_word role)))

-- ---- what is made, and what comes of it

abbrev pub dual_inputs_of : MapVersion → ArenaMap → Book → DualInputs
dual_inputs_of version m book = record { version = version; map = listed_of m; book_version = book.version; schema = book.schema; rules = map rule_of book.rules }

-- the text, or why there is none
abbrev pub IsDualMade : Files → DualNames → (ℕ → Type 0) → Result (Vec ℕ) Stop → Type 0
IsDualMade files named load_fails (Ok text) = IsGoodDual files named text.items
IsDualMade files named load_fails (Err stop) = IsStopFor (IsDualAnswer files named) (IsDualLoadFailure files named load_fails) stop

-- the text to print, and what the store then holds
abbrev pub IsDualReply : Files → DualNames → (ℕ → Type 0) → Type 0 → Contents → Result Reply NoText → Type 0
IsDualReply files named load_fails save_fails after reply = IsTextOf files (IsDualAnswer files named) (IsDualLoadFailure files named load_fails) save_fails after reply
