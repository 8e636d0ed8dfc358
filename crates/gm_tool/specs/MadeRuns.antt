-- What a run makes of its files before anything is saved, and what is left when the map is saved.
use Rattle.std.specs.Prelude.{◌≡◌, ◌⊎◌, ℕ, ◌<◌, ◌≤◌, List, ◌++◌, length, map, Some, Result, Ok, Err, IfSome, codes}
use Rattle.gm_host.specs.Store.{Contents}
use Rattle.gm_host.specs.Count.{counted}
use Rattle.gm_host.specs.Saves.{IsSaved, IsSavedInPart}
use Rattle.gm_arena.specs.inner.ArenaAsMap.{as_map}
use Rattle.gm_arena.specs.inner.ArenaMap.{ArenaMap}
use Rattle.gm_mapfile.specs.inner.Rows.{listed_of}
use Rattle.gm_model.specs.declared.rule.Book.{Book}
use Rattle.gm_model.specs.declared.script.Script.{Script}
use Rattle.gm_model.specs.Maps.{IsSound}
use Rattle.gm_mapfile.specs.MapText.{ListedMap, MapText, canonical}
use Rattle.gm_mapfile.specs.declared.version.MapVersion.{MapVersion}
use Rattle.gm_model.specs.Rules.{rule_of}
use Rattle.gm_script.specs.ScriptText.{ScriptText}
use Rattle.gm_plan.specs.inner.Plans.{PlanOf, plan_of}
use Rattle.gm_tool.specs.Answer.{most_bytes, Files, Answer, answers}
use Rattle.gm_lines.specs.Refusing.{refusal, role_word}
use Rattle.gm_lines.specs.Refusing as refusing
use Rattle.gm_tool.specs.Endings.{IsTextOf}
use Rattle.gm_tool.specs.Loads.{load_of}
use Rattle.gm_tool.specs.inner.Refusals.{role_in, refusal_answer}
use Rattle.gm_tool.specs.RunAnswer.{RunNames, Inputs, Ran, IsRan, IsGoodRun, IsRunAnswer, PassesTo, report_of, saved_of, run_status}
use Rattle.gm_tool.specs.declared.command.RunFiles.{RunFiles}
use Rattle.gm_tool.specs.declared.refusal.NoText.{NoText}
use Rattle.gm_tool.specs.declared.refusal.NoText.TheVariants as nothing
use Rattle.gm_tool.specs.declared.refusal.Refusal.TheVariants as refusals
use Rattle.gm_tool.specs.declared.refusal.Stop.{Stop}
use Rattle.gm_tool.specs.declared.refusal.Stop.TheVariants as stops
use Rattle.gm_tool.specs.declared.reply.Reply.{Reply}
use Rattle.gm_tool.specs.declared.running.Made.{Made}

abbrev pub names_of : RunFiles → RunNames
names_of files = record { map = files.map.now; book = files.book.now; script = files.script.now; out = files.out.now }

-- ---- the lines are applied

abbrev pub inputs_of : MapVersion → ArenaMap → Book → Script → Inputs
inputs_of version m book script = record { version = version; map = listed_of m; schema = book.schema; rules = map rule_of book.rules; stats = script.stats }

-- what was read can be run
pub record CanRun (m : ArenaMap) (book : Book) (script : Script) (plans : List PlanOf) : Type 0 where
  pub sound : IsSound (as_map m)
  pub agree : m.schema ≡ book.schema
  pub plans_are : plans ≡ map (plan_of book.schema) book.rules
  pub text : List ℕ
  pub stats : ScriptText text book.schema.dim (map rule_of book.rules) script.stats

-- texts that are not too long, with the status; or one of them is
abbrev pub IsFitted : ℕ → List ℕ → List ℕ → Result Made Stop → Type 0
IsFitted status report map (Ok made) = (made.status ≡ status) × (made.report.items ≡ report) × (made.map.items ≡ map) × (length report ≤ most_bytes) × (length map ≤ most_bytes)
IsFitted status report map (Err stop) = (stop ≡ stops.NoText (nothing.Refused refusals.SizeOutput)) × ((most_bytes < length report) ⊎ (most_bytes < length map))

-- the same, where memory suffices
abbrev pub IsPrinted : ℕ → List ℕ → List ℕ → Result Made Stop → Type 0
IsPrinted status report map (Err (stops.NoText nothing.OutOfMemory)) = Unit {0}
IsPrinted status report map made = IsFitted status report map made

-- what a run of the inputs comes to, where memory suffices
abbrev pub IsRunOf : Inputs → Result Made Stop → Type 0
IsRunOf inputs (Err (stops.NoText nothing.OutOfMemory)) = Unit {0}
IsRunOf inputs made = (ran : Ran) × IsRan inputs ran × IsFitted (run_status ran.outcomes) (report_of inputs ran) (saved_of inputs ran) made

-- the bytes are the canonical text of a map, which they stand for by the grammar
abbrev pub IsMapBytes : List ℕ → Type 0
IsMapBytes bytes = (version : MapVersion) × (listed : ListedMap) × (bytes ≡ canonical version listed) × MapText bytes version listed

-- ---- the files

-- no file before that of this role fails, and the load of its file did; `load_fails` says so of a load by its number
abbrev pub IsRunLoadFailure : Files → RunNames → (ℕ → Type 0) → Answer → Type 0
IsRunLoadFailure files named load_fails given = (role : refusing.Role) × load_fails (load_of role) × PassesTo files named role × (given ≡ answers 3 (refusal (codes "load " ++ role_word role)))

-- a stop as an answer says, or since a load failed, or since memory ran out
abbrev pub IsStopFor : (Answer → Type 0) → (Answer → Type 0) → Stop → Type 0
IsStopFor IsDefined IsLoadFailure (stops.Bad line) = IsDefined (answers 4 line.items)
IsStopFor IsDefined IsLoadFailure (stops.NoText nothing.OutOfMemory) = Unit {0}
IsStopFor IsDefined IsLoadFailure (stops.NoText (nothing.Refused why)) = IsDefined (refusal_answer why) ⊎ IsLoadFailure (refusal_answer why)

abbrev pub IsStopOf : Files → RunNames → (ℕ → Type 0) → Stop → Type 0
IsStopOf files named load_fails stop = IsStopFor (IsRunAnswer files named) (IsRunLoadFailure files named load_fails) stop

-- what is saved and printed of a run, or why it stops
abbrev pub IsMade : Files → RunNames → (ℕ → Type 0) → Result Made Stop → Type 0
IsMade files named load_fails (Ok made) = (inputs : Inputs) × (ran : Ran) × IsGoodRun files named inputs ran × IsFitted (run_status ran.outcomes) (report_of inputs ran) (saved_of inputs ran) (Ok made)
IsMade files named load_fails (Err stop) = IsStopOf files named load_fails stop

-- no load, or one, two or three
abbrev pub LoadsAtMostThrice : ℕ → ℕ → Type 0
LoadsAtMostThrice before after = (after ≡ before) ⊎ ((after ≡ counted before) ⊎ ((after ≡ counted (counted before)) ⊎ (after ≡ counted (counted (counted before)))))

-- ---- the save

-- the statuses of a run that is done
abbrev pub IsRunStatus : ℕ → Type 0
IsRunStatus status = (status ≡ 0) ⊎ (status ≡ 1)

-- where the store tells, it holds such bytes under the name
abbrev pub HoldsSuch : (List ℕ → Type 0) → Contents → List ℕ → Type 0
HoldsSuch IsSuch contents name = IfSome contents (λ files. (bytes : List ℕ) × (files name ≡ Some bytes) × IsSuch bytes)

abbrev pub HoldsMap : Contents → List ℕ → Type 0
HoldsMap contents name = HoldsSuch IsMapBytes contents name

-- the text to print of a run, and what the store then holds
abbrev pub IsRunText : Files → RunNames → (ℕ → Type 0) → Type 0 → Contents → Result Reply NoText → Type 0
IsRunText files named load_fails save_fails after reply = IsTextOf files (IsRunAnswer files named) (IsRunLoadFailure files named load_fails) save_fails after reply

-- an answer for the load of a role's file has the first cause, one for a save the second, and none is for the words
abbrev pub IsSoundReply : Result Reply NoText → (refusing.Role → Type 0) → Type 0 → Type 0
IsSoundReply (Err (nothing.Refused (refusals.Load role))) P Q = P (role_in role)
IsSoundReply (Err (nothing.Refused refusals.Save)) P Q = Q
IsSoundReply (Err (nothing.Refused refusals.Usage)) P Q = ⊥
IsSoundReply _ P Q = Unit {0}

-- the map is saved and the report is to be printed; or the store failed and saved it in part; or memory ran out, and nothing changed
abbrev pub IsSaving : Contents → List ℕ → Made → Type 0 → Contents → Result Reply NoText → Type 0
IsSaving before name made fails after (Ok reply) = (reply.status ≡ made.status) × (reply.text.items ≡ made.report.items) × IsSaved before name made.map.items after
IsSaving before name made fails after (Err nothing.OutOfMemory) = after ≡ before
IsSaving before name made fails after (Err (nothing.Refused refusals.Save)) = fails × IsSavedInPart before name made.map.items after
IsSaving before name made fails after (Err (nothing.Refused _)) = ⊥
