-- Why a run stops before anything is saved, and what each of its files gives.
use Rattle.std.specs.Prelude.{◌≡◌, ◌⊎◌, ℕ, List, ◌++◌, map, Result, Ok, Err, IfSome, codes}
use Rattle.std.specs.Global.{Vec}
use Rattle.gm_host.specs.Store.{Contents, Lacks}
use Rattle.gm_arena.specs.inner.ArenaAsMap.{as_map}
use Rattle.gm_mapfile.specs.inner.Rows.{listed_of}
use Rattle.gm_model.specs.declared.rule.Book.{Book}
use Rattle.gm_model.specs.declared.script.Script.{Script}
use Rattle.gm_forms.specs.BookText.{BookText}
use Rattle.gm_mapfile.specs.MapText.{MapText}
use Rattle.gm_mapfile.specs.declared.reading.MapRead.{MapRead}
use Rattle.gm_model.specs.Maps.{IsSound}
use Rattle.gm_model.specs.Rules.{Rule, rule_of}
use Rattle.gm_script.specs.ScriptText.{ScriptText}
use Rattle.gm_tool.specs.Answer.{Files, answers, HasFile}
use Rattle.gm_lines.specs.Refusing.{refusal, Role, role_word}
use Rattle.gm_tool.specs.inner.Refusals.{role_in, refusal_answer}
use Rattle.gm_tool.specs.RunAnswer.{IsFailing}
use Rattle.gm_tool.specs.declared.refusal.NoText as none_of
use Rattle.gm_tool.specs.declared.refusal.NoText.TheVariants as nothing
use Rattle.gm_tool.specs.declared.refusal.Refusal.TheVariants.{Usage, Load, Save}
use Rattle.gm_tool.specs.declared.refusal.Stop.{Stop}
use Rattle.gm_tool.specs.declared.refusal.Stop.TheVariants.{Bad, NoText}
use Rattle.gm_tool.specs.declared.reply.Reply.{Reply}
use Rattle.gm_tool.specs.declared.running.Loaded.{Loaded}

-- a line that was made, or that memory ran out
abbrev pub IsStopWith : {E : Type 0} → Result (Vec ℕ) E → Stop → Type 0
IsStopWith (Ok line) stop = stop ≡ Bad line
IsStopWith (Err error) stop = stop ≡ NoText nothing.OutOfMemory

-- the line that says in the role why, or that memory ran out
abbrev pub IsBadFor : Role → (List ℕ → Type 0) → Stop → Type 0
IsBadFor role IsWhy (Bad line) = (why : List ℕ) × IsWhy why × (line.items ≡ refusal (role_word role ++ codes " " ++ why))
IsBadFor role IsWhy (NoText nothing.OutOfMemory) = Unit {0}
IsBadFor role IsWhy (NoText (nothing.Refused why)) = ⊥

-- the file of the role fails so, or its load failed, or memory ran out
abbrev pub IsRoleStop : Files → Role → List ℕ → (List ℕ → List ℕ → Type 0) → Type 0 → Stop → Type 0
IsRoleStop files role name IsBadText fails (Bad line) = IsFailing files role name IsBadText (answers 4 line.items)
IsRoleStop files role name IsBadText fails (NoText nothing.OutOfMemory) = Unit {0}
IsRoleStop files role name IsBadText fails (NoText (nothing.Refused why)) =
    IsFailing files role name IsBadText (refusal_answer why) ⊎ (fails × (refusal_answer why ≡ answers 3 (refusal (codes "load " ++ role_word role))))

-- a stop for the load of a role's file has this cause, and none is for the words or for a save
abbrev pub IsSoundStop : Stop → (Role → Type 0) → Type 0
IsSoundStop (NoText (nothing.Refused (Load role))) P = P (role_in role)
IsSoundStop (NoText (nothing.Refused Usage)) P = ⊥
IsSoundStop (NoText (nothing.Refused Save)) P = ⊥
IsSoundStop _ P = Unit {0}

-- a text that can't be run has its line printed with status 4
abbrev pub reply_of : Stop → Result Reply none_of.NoText
reply_of (Bad line) = Ok (record { status = 4; text = line })
reply_of (NoText none) = Err none

-- ---- the three files

-- the arena has the map of the bytes
pub record IsReadMap (bytes : List ℕ) (read : MapRead) : Type 0 where
  pub stands : MapText bytes read.version (listed_of read.arena)
  pub sound : IsSound (as_map read.arena)

-- the same of a map with the bytes of its file
abbrev pub IsLoadedMap : List ℕ → Loaded → Type 0
IsLoadedMap bytes loaded = IsReadMap bytes loaded.map

abbrev pub IsReadBook : List ℕ → Book → Type 0
IsReadBook bytes book = BookText bytes book.version book.schema (map rule_of book.rules)

abbrev pub IsReadScript : ℕ → List Rule → List ℕ → Script → Type 0
IsReadScript n rules bytes script = ScriptText bytes n rules script.stats

-- where the store tells, the value is read from the file of that name, or the file is why there is none
abbrev pub IsFrom : {A : Type 0} → Contents → Role → List ℕ → (List ℕ → A → Type 0) → (List ℕ → List ℕ → Type 0) → Type 0 → Result A Stop → Type 0
IsFrom contents role name IsReadAs IsBadText fails (Ok value) = IfSome contents (λ files. (bytes : List ℕ) × HasFile files name bytes × IsReadAs bytes value)
IsFrom contents role name IsReadAs IsBadText fails (Err stop) = IfSome contents (λ files. IsRoleStop files role name IsBadText fails stop) × IsSoundStop stop (λ other. (other ≡ role) × (fails ⊎ Lacks contents name))
