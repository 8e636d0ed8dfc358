-- What the program answers to its words and files: the status, the text printed, and the bytes saved.
use Rattle.std.specs.Prelude.{◌≡◌, ◌⊎◌, ℕ, List, codes}
use Rattle.gm_tool.specs.Answer.{Files, Answer, answers, Command, Asks, IsFileAnswer}
use Rattle.gm_tool.specs.DualAnswer.{DualNames, AsksDual, IsDualAnswer}
use Rattle.gm_tool.specs.GridAnswer.{AsksGrid, IsGridAnswer}
use Rattle.gm_lines.specs.Refusing.{refusal}
use Rattle.gm_tool.specs.Migrating.{MigrateNames, AsksMigrate, IsMigrateAnswer}
use Rattle.gm_tool.specs.RunAnswer.{RunNames, AsksRun, IsRunAnswer}

-- the words are a command on one file
abbrev pub IsFileCommand : List (List ℕ) → Type 0
IsFileCommand words = (command : Command) × (name : List ℕ) × Asks words command name

abbrev pub IsRunCommand : List (List ℕ) → Type 0
IsRunCommand words = (named : RunNames) × AsksRun words named

abbrev pub IsMigrateCommand : List (List ℕ) → Type 0
IsMigrateCommand words = (named : MigrateNames) × AsksMigrate words named

abbrev pub IsDualCommand : List (List ℕ) → Type 0
IsDualCommand words = (named : DualNames) × AsksDual words named

abbrev pub IsGridCommand : List (List ℕ) → Type 0
IsGridCommand words = (m : ℕ) × AsksGrid words m

-- the words are a command that saves
abbrev pub IsSavingCommand : List (List ℕ) → Type 0
IsSavingCommand words = IsRunCommand words ⊎ IsMigrateCommand words

-- the words are a command that reads one file
abbrev pub ReadsOneFile : List (List ℕ) → Type 0
ReadsOneFile words = IsFileCommand words ⊎ IsMigrateCommand words

-- the words are a command with its number of words
abbrev pub IsCommand : List (List ℕ) → Type 0
IsCommand words = IsFileCommand words ⊎ (IsSavingCommand words ⊎ (IsDualCommand words ⊎ IsGridCommand words))

-- they are none, or one that reads no file
abbrev pub ReadsNoFile : List (List ℕ) → Type 0
ReadsNoFile words = (IsCommand words → ⊥) ⊎ IsGridCommand words

pub data IsAnswer (words : List (List ℕ)) (files : Files) (answer : Answer) : Type 0 where
  Usage : (IsCommand words → ⊥) → answer ≡ answers 2 (refusal (codes "usage")) → IsAnswer words files answer
  OfFile : (command : Command) (name : List ℕ) → Asks words command name → IsFileAnswer files command name answer → IsAnswer words files answer
  OfRun : (named : RunNames) → AsksRun words named → IsRunAnswer files named answer → IsAnswer words files answer
  OfMigrate : (named : MigrateNames) → AsksMigrate words named → IsMigrateAnswer files named answer → IsAnswer words files answer
  OfDual : (named : DualNames) → AsksDual words named → IsDualAnswer files named answer → IsAnswer words files answer
  OfGrid : (m : ℕ) → AsksGrid words m → IsGridAnswer m answer → IsAnswer words files answer
