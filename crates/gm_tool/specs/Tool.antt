-- What a run of the program leaves: its status, what was written, and what its files and output did.
use Rattle.std.specs.Prelude.{◌≡◌, ◌≢◌, ◌⊎◌, ℕ, List, ◌++◌, map, take, Option, Some, Result, codes, String, string_bytes}
use Rattle.std.specs.Global.{Global}
use Rattle.gm_tool.specs.Answer.{Answer, answers, Files, Asks, role_of, IsFileAnswer}
use Rattle.gm_lines.specs.Refusing.{Role, role_word, refusal}
use Rattle.gm_tool.specs.Answer as answer
use Rattle.gm_tool.specs.DualAnswer.{DualNames, AsksDual, IsDualLoadFailure, IsDualUnloaded, DualLoadsInOrder, CountsDualLoads}
use Rattle.gm_tool.specs.Endings.{IsEnding, IsTextOf}
use Rattle.gm_tool.specs.Loads.{FailsAt, CountsLoads, LoadsInOrder, IsUnloaded, OneAtMost, CountsSaves}
use Rattle.gm_tool.specs.MadeRuns.{IsRunLoadFailure, IsRunStatus, IsMapBytes, HoldsSuch, LoadsAtMostThrice}
use Rattle.gm_tool.specs.Migrating.{MigrateNames, AsksMigrate, IsMigrateLoadFailure}
use Rattle.gm_tool.specs.OwnFiles.{LoadsOwnFiles}
use Rattle.gm_tool.specs.Program.{IsAnswer, IsCommand, IsRunCommand, IsSavingCommand, ReadsOneFile, ReadsNoFile}
use Rattle.gm_tool.specs.RunAnswer.{RunNames, AsksRun}
use Rattle.gm_tool.specs.Seen.{Seen}
use Rattle.gm_host.specs.Count.{counted, Rises}
use Rattle.gm_host.specs.Store.{Contents, Lacks}
use Rattle.gm_host.specs.inner.Sink.{extended, ExtendsInPart}
use Rattle.gm_tool.specs.declared.reply.Reply.{Reply}
use Rattle.gm_tool.specs.declared.refusal.NoText.{NoText}

-- the words of the command line, by their bytes
abbrev pub words_of : List (String Global) → List (List ℕ)
words_of words = map string_bytes words

-- ---- a command on one file

-- the answer to the one load of the command's file, where it failed
abbrev pub IsFileLoadFailure : answer.Command → (ℕ → Type 0) → Answer → Type 0
IsFileLoadFailure command load_fails given = load_fails 1 × (given ≡ answers 3 (refusal (codes "load " ++ role_word (role_of command))))

abbrev pub IsFileText : Files → answer.Command → List ℕ → (ℕ → Type 0) → Type 0 → Contents → Result Reply NoText → Type 0
IsFileText files command name load_fails save_fails after reply = IsTextOf files (IsFileAnswer files command name) (IsFileLoadFailure command load_fails) save_fails after reply

-- ---- any command

-- the answer to a load that failed, of a file before which no file of the command fails
pub data IsLoadFailure (words : List (List ℕ)) (files : Files) (load_fails : ℕ → Type 0) (given : Answer) : Type 0 where
  OfFile : (command : answer.Command) (name : List ℕ) → Asks words command name → IsFileLoadFailure command load_fails given → IsLoadFailure words files load_fails given
  OfRun : (named : RunNames) → AsksRun words named → IsRunLoadFailure files named load_fails given → IsLoadFailure words files load_fails given
  OfMigrate : (named : MigrateNames) → AsksMigrate words named → IsMigrateLoadFailure load_fails given → IsLoadFailure words files load_fails given
  OfDual : (named : DualNames) → AsksDual words named → IsDualLoadFailure files named load_fails given → IsLoadFailure words files load_fails given

-- the text to print is that of the words' answer or of a fault of the store, and the store holds what it then holds
abbrev pub IsText : List (List ℕ) → Files → (ℕ → Type 0) → Type 0 → Contents → Result Reply NoText → Type 0
IsText words files load_fails save_fails after reply = IsTextOf files (IsAnswer words files) (IsLoadFailure words files load_fails) save_fails after reply

module _ (words : List (List ℕ)) (files : Files) (load_fails : ℕ → Type 0) (save_fails : Type 0) where
  -- status, text and store as the words' answer says, or as a fault of the store leaves it
  abbrev pub Ends : ℕ → List ℕ → Contents → Type 0
  Ends status text after = IsEnding files (IsAnswer words files) (IsLoadFailure words files load_fails) save_fails status text after

  -- What is left of store and sink, where both tell. `put_fails` says that the sink's count rose.
  pub data Leaves (put_fails : Type 0) (before : List ℕ) (status : ℕ) (written : List ℕ) (after : Contents) : Type 0 where
    -- the text, whole
    Put : (text : List ℕ) → Ends status text after → written ≡ before ++ text → Leaves put_fails before status written after
    -- the sink failed: some first bytes of it
    PutFailed : put_fails → (given : ℕ) (text : List ℕ) (kept : ℕ) → Ends given text after → status ≡ 6 → written ≡ before ++ take kept text → Leaves put_fails before status written after
    -- memory ran out for the put, and nothing was printed
    Unput : (given : ℕ) (text : List ℕ) → Ends given text after → status ≡ 7 → written ≡ before → Leaves put_fails before status written after
    -- memory ran out before, and all is as at entry
    NoMemory : status ≡ 7 → written ≡ before → after ≡ Some files → Leaves put_fails before status written after

-- the same, where store and sink tell; else nothing
abbrev pub LeavesWhereTold : List (List ℕ) → Contents → Contents → (ℕ → Type 0) → Type 0 → Type 0 → Option (List ℕ) → ℕ → Option (List ℕ) → Type 0
LeavesWhereTold words (Some files) later load_fails save_fails put_fails (Some before) status after =
    (written : List ℕ) × (after ≡ Some written) × Leaves words files load_fails save_fails put_fails before status written later
LeavesWhereTold words _ later load_fails save_fails put_fails _ status after = Unit {0}

-- why a file of the words is not loaded: its own load failed, or the store tells that it doesn't hold it; and each file before it is good
pub data IsLoadCause (words : List (List ℕ)) (contents : Contents) (load_fails : ℕ → Type 0) : Type 0 where
  ForFile : (command : answer.Command) (name : List ℕ) → Asks words command name → load_fails 1 ⊎ Lacks contents name → IsLoadCause words contents load_fails
  ForRun : (named : RunNames) → AsksRun words named → (role : Role) → IsUnloaded contents named load_fails role → IsLoadCause words contents load_fails
  ForMigrate : (named : MigrateNames) → AsksMigrate words named → load_fails 1 ⊎ Lacks contents named.map → IsLoadCause words contents load_fails
  ForDual : (named : DualNames) → AsksDual words named → (role : Role) → IsDualUnloaded contents named load_fails role → IsLoadCause words contents load_fails

-- where the words are a command that saves and the store tells, the store holds such bytes under the name to save under
abbrev pub HoldsSaved : (List ℕ → Type 0) → List (List ℕ) → Contents → Type 0
HoldsSaved IsSuch words contents = ((named : RunNames) → AsksRun words named → HoldsSuch IsSuch contents named.out) × ((named : MigrateNames) → AsksMigrate words named → HoldsSuch IsSuch contents named.out)

-- bytes are printed whole with the status given; or the sink failed, and some first bytes are; or memory ran out, and none are
abbrev pub IsPut : Option (List ℕ) → Option (List ℕ) → Type 0 → List ℕ → ℕ → ℕ → Type 0
IsPut before after fails bytes given status =
    ((status ≡ given) × (after ≡ extended before bytes)) ⊎ (((status ≡ 6) × fails × ExtendsInPart before bytes after) ⊎ ((status ≡ 7) × (after ≡ before)))

-- the statuses of a reply: done, a rule or a line that is refused, or a text that stands for nothing
abbrev pub IsReplyStatus : ℕ → Type 0
IsReplyStatus status = (status ≡ 0) ⊎ ((status ≡ 1) ⊎ (status ≡ 4))

abbrev pub IsStatus : ℕ → Type 0
IsStatus status = IsReplyStatus status ⊎ ((status ≡ 2) ⊎ ((status ≡ 3) ⊎ ((status ≡ 5) ⊎ ((status ≡ 6) ⊎ ((status ≡ 7) ⊎ (status ≡ 8))))))

-- what can be left of words that are no command
abbrev pub IsUsageStatus : ℕ → Type 0
IsUsageStatus status = (status ≡ 2) ⊎ ((status ≡ 6) ⊎ (status ≡ 7))

-- the words are `check` and a file
abbrev pub IsCheck : List (List ℕ) → Type 0
IsCheck words = (name : List ℕ) × Asks words answer.Check name

-- ---- whatever store and sink tell

-- A call of the words ends with the status: what that says of the words, and of the loads and saves that there were.
pub record EndsAs (words : List (List ℕ)) (before after : Seen) (status : ℕ) : Type 0 where
  pub statuses : IsStatus status
  pub usage : status ≡ 2 → IsCommand words → ⊥
  pub no_command : (IsCommand words → ⊥) → IsUsageStatus status
  pub refused : status ≡ 1 → IsCheck words ⊎ IsRunCommand words
  -- the files that the words name are loaded once at most, in their order, and no others are, whatever the status
  pub own_files : LoadsOwnFiles words before.loaded after.loaded
  pub loads : LoadsAtMostThrice before.loads after.loads
  pub no_load : ReadsNoFile words → after.loads ≡ before.loads
  pub one_load : ReadsOneFile words → after.loads ≡ counted before.loads
  pub loads_in_order : (named : RunNames) → AsksRun words named → LoadsInOrder before.holds named before.loads after.loads
  pub dual_loads_in_order : (named : DualNames) → AsksDual words named → DualLoadsInOrder before.holds named before.loads after.loads
  pub counted_loads : status ≢ 7 → CountsLoads words before.holds (Rises before.load_faults after.load_faults) before.loads after.loads
  pub counted_dual_loads : status ≢ 7 → CountsDualLoads words before.holds (Rises before.load_faults after.load_faults) before.loads after.loads
  pub load_failed : status ≡ 3 → IsLoadCause words before.holds (FailsAt before.load_faults after.load_faults before.loads after.loads)
  -- there is one save at most, and only of a command that saves
  pub held : (IsSavingCommand words → ⊥) → after.holds ≡ before.holds
  pub no_save_fault : (IsSavingCommand words → ⊥) → after.save_faults ≡ before.save_faults
  pub no_save : (IsSavingCommand words → ⊥) → after.saves ≡ before.saves
  pub one_save : OneAtMost before.saves after.saves
  pub saves : IsSavingCommand words → CountsSaves status before.saves after.saves
  pub save_failed : status ≡ 5 → Rises before.save_faults after.save_faults
  pub no_save_failed : IsRunStatus status → after.save_faults ≡ before.save_faults
  -- what is saved is the canonical text of a map, and stands for it: so it is a generalised map with one value on each embedding orbit
  pub stands : IsRunStatus status → HoldsSaved IsMapBytes words after.holds
