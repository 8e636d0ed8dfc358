-- What a run of a script answers to the names of its files: the status, the report, and the map that is saved.
use Rattle.std.specs.Prelude.{◌≡◌, ◌⊎◌, ℕ, ◌<◌, ◌≤◌, List, [], ◌∷◌, ◌++◌, length, Some, None, All, Bool, nat_lt, if◌then◌else◌, codes, slice_get}
use Rattle.std.specs.List.{AllByRecursion}
use Rattle.std.specs.List.Sorted.{IsStrictlyIncreasing}
use Rattle.gm_model.specs.declared.rule.RuleFault.{RuleFault}
use Rattle.gm_model.specs.declared.schema.Schema.{Schema}
use Rattle.gm_model.specs.Statements.{Stat}
use Rattle.gm_model.specs.Acceptance.{IsAccepted, IsFault}
use Rattle.gm_forms.specs.BookText.{BookText}
use Rattle.gm_mapfile.specs.MapReading.{IsWhole}
use Rattle.gm_mapfile.specs.MapText.{ListedMap, MapText, map_of, canonical, names}
use Rattle.gm_mapfile.specs.declared.version.MapVersion.{MapVersion}
use Rattle.gm_model.specs.Reports.{report_text, refused_in}
use Rattle.gm_model.specs.Rules.{Rule}
use Rattle.gm_model.specs.Runs.{Outcome, State, start_of, IsRun}
use Rattle.gm_script.specs.ScriptText.{ScriptText}
use Rattle.gm_tool.specs.Answer.{most_bytes, Files, Answer, answers, HasFile}
use Rattle.gm_lines.specs.Refusing.{Role, TheMap, TheBook, TheScript, role_word, refusal, IsBad}
use Rattle.gm_lines.specs.Checking.{rule_fault_words}
use Rattle.gm_lines.specs.ScriptFaults.{ScriptTextFault, IsFirstScriptFault, script_fault_words}

-- the files that are read, and the name under which the map is saved
pub record RunNames : Type 0 where
  pub map : List ℕ
  pub book : List ℕ
  pub script : List ℕ
  pub out : List ℕ

abbrev pub AsksRun : List (List ℕ) → RunNames → Type 0
AsksRun words named = words ≡ codes "run" ∷ named.map ∷ named.book ∷ named.script ∷ named.out ∷ []

-- ---- a file that fails

-- the file of the role fails: it isn't held, or is too long, or stands for nothing that can be run, with words that say why
pub data IsFailing (files : Files) (role : Role) (name : List ℕ) (IsBadText : List ℕ → List ℕ → Type 0) (answer : Answer) : Type 0 where
  Missing : files name ≡ None → answer ≡ answers 3 (refusal (codes "load " ++ role_word role)) → IsFailing files role name IsBadText answer
  Long : (bytes : List ℕ) → files name ≡ Some bytes → most_bytes < length bytes → answer ≡ answers 8 (refusal (codes "size " ++ role_word role)) → IsFailing files role name IsBadText answer
  Bad : (bytes why : List ℕ) → HasFile files name bytes → IsBadText bytes why → answer ≡ answers 4 (refusal (role_word role ++ codes " " ++ why)) → IsFailing files role name IsBadText answer

-- the words say the first fault of the rule
abbrev pub IsRuleWhy : Schema → Rule → List ℕ → Type 0
IsRuleWhy schema rule why = (fault : RuleFault) × IsFault schema rule fault × (why ≡ codes "rule " ++ rule.name ++ codes " " ++ rule_fault_words schema rule fault)

-- the first rule that isn't accepted, and the words that say so
pub record IsFirstRefused (schema : Schema) (rules : List Rule) (why : List ℕ) : Type 0 where
  pub place : ℕ
  pub rule : Rule
  pub rule_at : slice_get rules place ≡ Some rule
  pub says : IsRuleWhy schema rule why
  pub before : (k : ℕ) (other : Rule) → k < place → slice_get rules k ≡ Some other → IsAccepted schema other

abbrev pub IsBadBookText : List ℕ → List ℕ → Type 0
IsBadBookText bytes why = IsBad bytes TheBook why

-- the text stands for no book, or for one with a rule that isn't accepted
pub data IsBadBook (bytes why : List ℕ) : Type 0 where
  Unread : IsBadBookText bytes why → IsBadBook bytes why
  RuleRefused : (version : ℕ) (schema : Schema) (rules : List Rule) → BookText bytes version schema rules → IsFirstRefused schema rules why → IsBadBook bytes why

abbrev pub IsBadMap : List ℕ → List ℕ → Type 0
IsBadMap bytes why = IsBad bytes TheMap why

abbrev pub IsBadScript : ℕ → List Rule → List ℕ → List ℕ → Type 0
IsBadScript n rules bytes why = (fault : ScriptTextFault) × IsFirstScriptFault bytes n rules fault × (why ≡ script_fault_words fault)

-- ---- the files that are good

pub record Inputs : Type 0 where
  pub version : MapVersion
  pub map : ListedMap
  pub schema : Schema
  pub rules : List Rule
  pub stats : List Stat

module _ (files : Files) (named : RunNames) (inputs : Inputs) where
  abbrev pub HasMap : Type 0
  HasMap = (bytes : List ℕ) × HasFile files named.map bytes × MapText bytes inputs.version inputs.map

  -- each rule is accepted
  abbrev pub HasBook : Type 0
  HasBook = (bytes : List ℕ) × (version : ℕ) × HasFile files named.book bytes × BookText bytes version inputs.schema inputs.rules × All (IsAccepted inputs.schema) inputs.rules

  abbrev pub HasScript : Type 0
  HasScript = (bytes : List ℕ) × HasFile files named.script bytes × ScriptText bytes inputs.schema.dim inputs.rules inputs.stats

-- the map and the book are of one dimension, with the same embeddings in the same order
abbrev pub Agree : Inputs → Type 0
Agree inputs = inputs.map.schema ≡ inputs.schema

-- ---- the run

-- the outcomes of the statements, and the map after them, its darts in ascending order of their names
pub record Ran : Type 0 where
  pub outcomes : List Outcome
  pub map : ListedMap

pub record IsRan (inputs : Inputs) (ran : Ran) : Type 0 where
  pub behind : State
  pub run : IsRun inputs.rules (start_of (map_of inputs.map)) inputs.stats ran.outcomes behind
  pub map_is : behind.map ≡ map_of ran.map
  pub schema_is : ran.map.schema ≡ inputs.map.schema
  pub ascending : IsStrictlyIncreasing (names ran.map.darts)
  pub whole : AllByRecursion (IsWhole ran.map.schema) ran.map.darts

abbrev pub report_of : Inputs → Ran → List ℕ
report_of inputs ran = report_text inputs.schema inputs.rules inputs.stats ran.outcomes (length ran.map.darts) ran.map.next

abbrev pub saved_of : Inputs → Ran → List ℕ
saved_of inputs ran = canonical inputs.version ran.map

-- the line of a statement says that something was refused
abbrev pub says_refused : Outcome → Bool
says_refused outcome = nat_lt 0 (refused_in outcome)

-- 1 where a line says so
abbrev pub run_status : List Outcome → ℕ
run_status [] = 0
run_status (outcome ∷ outcomes) = if says_refused outcome then 1 else run_status outcomes

-- ---- the answer

-- all files are good, and the statements run so
pub record IsGoodRun (files : Files) (named : RunNames) (inputs : Inputs) (ran : Ran) : Type 0 where
  pub the_map : HasMap files named inputs
  pub the_book : HasBook files named inputs
  pub the_script : HasScript files named inputs
  pub agree : Agree inputs
  pub is_ran : IsRan inputs ran

-- The files are taken in their order, and the first that fails decides. One rule for each case; no two of them fit the same files and names.
pub data IsRunAnswer (files : Files) (named : RunNames) (answer : Answer) : Type 0 where
  MapFails : IsFailing files TheMap named.map IsBadMap answer → IsRunAnswer files named answer
  BookFails : (inputs : Inputs) → HasMap files named inputs → IsFailing files TheBook named.book IsBadBook answer → IsRunAnswer files named answer
  ScriptFails : (inputs : Inputs) → HasMap files named inputs → HasBook files named inputs → IsFailing files TheScript named.script (IsBadScript inputs.schema.dim inputs.rules) answer → IsRunAnswer files named answer
  Disagree : (inputs : Inputs) → HasMap files named inputs → HasBook files named inputs → HasScript files named inputs → (Agree inputs → ⊥) → answer ≡ answers 4 (refusal (codes "agree")) → IsRunAnswer files named answer
  -- the report or the map is too long
  LongOutput : (inputs : Inputs) (ran : Ran) → IsGoodRun files named inputs ran → (most_bytes < length (report_of inputs ran)) ⊎ (most_bytes < length (saved_of inputs ran))
      → answer ≡ answers 8 (refusal (codes "size output")) → IsRunAnswer files named answer
  -- the report is printed, and the map is saved
  Done : (inputs : Inputs) (ran : Ran) → IsGoodRun files named inputs ran → length (report_of inputs ran) ≤ most_bytes → length (saved_of inputs ran) ≤ most_bytes
      → answer ≡ record { status = run_status ran.outcomes; text = report_of inputs ran; saved = Some (record { name = named.out; bytes = saved_of inputs ran }) } → IsRunAnswer files named answer

-- each file of a run that is taken before that of the role is good
abbrev pub PassesTo : Files → RunNames → Role → Type 0
PassesTo files named TheMap = Unit {0}
PassesTo files named TheBook = (inputs : Inputs) × HasMap files named inputs
PassesTo files named TheScript = (inputs : Inputs) × HasMap files named inputs × HasBook files named inputs
