-- What the migration of a map to the second version of the format answers: the status, the line, and the text that is saved.
use Rattle.std.specs.Prelude.{◌≡◌, ℕ, ◌<◌, ◌≤◌, List, [], ◌∷◌, ◌++◌, length, Some, Result, Ok, Err, codes, decimal}
use Rattle.gm_host.specs.Store.{Contents}
use Rattle.gm_lines.specs.Refusing.{TheMap, role_word, refusal}
use Rattle.gm_mapfile.specs.MapText.{ListedMap, MapText, canonical}
use Rattle.gm_mapfile.specs.declared.version.MapVersion.{MapVersion}
use Rattle.gm_mapfile.specs.declared.version.MapVersion.TheVariants as versions
use Rattle.gm_tool.specs.Answer.{most_bytes, Files, Answer, answers, HasFile}
use Rattle.gm_tool.specs.Endings.{IsTextOf}
use Rattle.gm_tool.specs.RunAnswer.{IsFailing, IsBadMap}
use Rattle.gm_tool.specs.declared.command.MigrateFiles.{MigrateFiles}
use Rattle.gm_tool.specs.declared.refusal.NoText.{NoText}
use Rattle.gm_tool.specs.declared.refusal.NoText.TheVariants as nothing
use Rattle.gm_tool.specs.declared.refusal.Refusal.TheVariants as refusals
use Rattle.gm_tool.specs.declared.reply.Reply.{Reply}
use Rattle.gm_tool.specs.declared.running.Made.{Made}

-- the file that is read, and the name under which the map is saved
pub record MigrateNames : Type 0 where
  pub map : List ℕ
  pub out : List ℕ

abbrev pub AsksMigrate : List (List ℕ) → MigrateNames → Type 0
AsksMigrate words named = words ≡ codes "migrate" ∷ named.map ∷ named.out ∷ []

abbrev pub migrate_names_of : MigrateFiles → MigrateNames
migrate_names_of files = record { map = files.map.now; out = files.out.now }

-- ---- the answer

-- migrated darts 2 next 41
abbrev pub migrated_line : ListedMap → List ℕ
migrated_line map = codes "migrated darts " ++ decimal (length map.darts) ++ codes " next " ++ decimal map.next ++ codes "\n"

-- the map in the second version
abbrev pub migrated_text : ListedMap → List ℕ
migrated_text map = canonical versions.Two map

-- the file is held, and its text, in either version, stands for the map
abbrev pub HasMigrated : Files → MigrateNames → ListedMap → Type 0
HasMigrated files named map = (bytes : List ℕ) × (version : MapVersion) × HasFile files named.map bytes × MapText bytes version map

-- One rule for each case; no two of them fit the same files and names.
pub data IsMigrateAnswer (files : Files) (named : MigrateNames) (answer : Answer) : Type 0 where
  MapFails : IsFailing files TheMap named.map IsBadMap answer → IsMigrateAnswer files named answer
  -- the text to save is too long
  LongOutput : (map : ListedMap) → HasMigrated files named map → most_bytes < length (migrated_text map) → answer ≡ answers 8 (refusal (codes "size output")) → IsMigrateAnswer files named answer
  -- the line is printed, and the text is saved
  Done : (map : ListedMap) → HasMigrated files named map → length (migrated_text map) ≤ most_bytes
      → answer ≡ record { status = 0; text = migrated_line map; saved = Some (record { name = named.out; bytes = migrated_text map }) } → IsMigrateAnswer files named answer

-- ---- what is made, and what comes of it

-- the text to save and the line, where the text is not too long; or it is
abbrev pub IsMigrated : ListedMap → Result Made NoText → Type 0
IsMigrated map (Ok made) = (made.status ≡ 0) × (made.report.items ≡ migrated_line map) × (made.map.items ≡ migrated_text map) × (length (migrated_text map) ≤ most_bytes)
IsMigrated map (Err nothing.OutOfMemory) = Unit {0}
IsMigrated map (Err (nothing.Refused why)) = (why ≡ refusals.SizeOutput) × (most_bytes < length (migrated_text map))

-- the answer to the one load, where it failed
abbrev pub IsMigrateLoadFailure : (ℕ → Type 0) → Answer → Type 0
IsMigrateLoadFailure load_fails given = load_fails 1 × (given ≡ answers 3 (refusal (codes "load " ++ role_word TheMap)))

-- the text to print of a migration, and what the store then holds
abbrev pub IsMigrateText : Files → MigrateNames → (ℕ → Type 0) → Type 0 → Contents → Result Reply NoText → Type 0
IsMigrateText files named load_fails save_fails after reply = IsTextOf files (IsMigrateAnswer files named) (IsMigrateLoadFailure load_fails) save_fails after reply
