-- Which files are loaded: those that the words name to be read, in their order, and no others.
use Rattle.std.specs.Prelude.{◌≡◌, ◌⊎◌, ℕ, List, [], ◌∷◌, ◌++◌}
use Rattle.gm_tool.specs.Answer.{Command, Asks}
use Rattle.gm_tool.specs.DualAnswer.{DualNames, AsksDual}
use Rattle.gm_tool.specs.Migrating.{MigrateNames, AsksMigrate}
use Rattle.gm_tool.specs.Program.{ReadsNoFile}
use Rattle.gm_tool.specs.RunAnswer.{RunNames, AsksRun}

-- the files that a run reads, in their order
abbrev pub run_files : RunNames → List (List ℕ)
run_files named = named.map ∷ named.book ∷ named.script ∷ []

-- those that `dual` reads
abbrev pub dual_files : DualNames → List (List ℕ)
dual_files named = named.map ∷ named.book ∷ []

-- the first of the files were loaded, in their order, and no others; perhaps none, and perhaps all
abbrev pub LoadsFirst : List (List ℕ) → List (List ℕ) → List (List ℕ) → Type 0
LoadsFirst files before after = (loaded : List (List ℕ)) × (rest : List (List ℕ)) × (files ≡ loaded ++ rest) × (after ≡ before ++ loaded)

-- the file was loaded, or none was
abbrev pub LoadsAtMost : List ℕ → List (List ℕ) → List (List ℕ) → Type 0
LoadsAtMost name before after = (after ≡ before) ⊎ (after ≡ before ++ name ∷ [])

-- the words name these files to be read, in this order
pub data NamesFiles (words : List (List ℕ)) (files : List (List ℕ)) : Type 0 where
  NoFile : ReadsNoFile words → files ≡ [] → NamesFiles words files
  OfFile : (command : Command) (name : List ℕ) → Asks words command name → files ≡ name ∷ [] → NamesFiles words files
  OfMigrate : (named : MigrateNames) → AsksMigrate words named → files ≡ named.map ∷ [] → NamesFiles words files
  OfDual : (named : DualNames) → AsksDual words named → files ≡ dual_files named → NamesFiles words files
  OfRun : (named : RunNames) → AsksRun words named → files ≡ run_files named → NamesFiles words files

-- of the files that the words name to be read the first were loaded, in their order, and no others
abbrev pub LoadsOwnFiles : List (List ℕ) → List (List ℕ) → List (List ℕ) → Type 0
LoadsOwnFiles words before after = (files : List (List ℕ)) × NamesFiles words files × LoadsFirst files before after
