-- That each application has an outcome and a budget, and each script a run.
use Rattle.std.specs.Prelude.{◌≡◌, ℕ, ◌≤◌, false, List, length, All, Some, slice_get, IsTrue}
use Rattle.std.specs.List.{AllByRecursion}
use Rattle.gm_model.specs.declared.schema.Schema.{Schema}
use Rattle.gm_model.specs.Statements.{Line, Stat}
use Rattle.gm_model.specs.Statements as statements
use Rattle.gm_model.specs.declared.value.Value.{Value}
use Rattle.gm_model.specs.declared.word.Mask.{Mask}
use Rattle.gm_model.specs.Acceptance.{IsAccepted}
use Rattle.gm_model.specs.Applications.{Application, IsBudget}
use Rattle.gm_model.specs.Budgets.{Bounds, Entries, no_entries, IsRunWithin}
use Rattle.gm_model.specs.Histories.{Group}
use Rattle.gm_model.specs.Kinds.{AreGoodParams}
use Rattle.gm_model.specs.Labels.{has}
use Rattle.gm_model.specs.Maps.{Map, IsSchema, IsSound, dimension}
use Rattle.gm_model.specs.Rules.{Rule}
use Rattle.gm_model.specs.Runs.{Outcome, IsOutcome, State, start_of, IsRun, AreInOrder}

-- For every sound map, every accepted rule, as many darts as the rule has hooks, and a value of its kind for each
-- parameter: the application is done, and leaves a map, or it is refused for a cause.
abbrev pub ApplicationsHaveOutcomes : Type 0
ApplicationsHaveOutcomes = (app : Application) → IsSchema app.map.schema → IsSound app.map → IsAccepted app.map.schema app.rule → length app.hooks ≡ length app.rule.hooks → AreGoodParams app.rule app.params → (outcome : Outcome) × (after : Map) × IsOutcome app outcome after

-- And it has a budget, the most steps that it may take.
abbrev pub ApplicationsHaveBudgets : Type 0
ApplicationsHaveBudgets = (app : Application) → IsSchema app.map.schema → IsSound app.map → IsAccepted app.map.schema app.rule → length app.hooks ≡ length app.rule.hooks → AreGoodParams app.rule app.params → (most : ℕ) × IsBudget app most

-- ---- scripts

-- the line names a rule, with as many darts as it has hooks, and a value of its kind for each parameter
pub record IsGoodLine (rules : List Rule) (line : Line) : Type 0 where
  pub rule : Rule
  pub rule_is : slice_get rules line.rule ≡ Some rule
  pub hooks : length line.hooks ≡ length rule.hooks
  pub params : AreGoodParams rule line.params

-- the `each` names a rule with one hook, labels up to n, and a value of its kind for each parameter
pub record IsGoodEach (rules : List Rule) (n : ℕ) (mask : Mask) (index : ℕ) (values : List Value) : Type 0 where
  pub rule : Rule
  pub rule_is : slice_get rules index ≡ Some rule
  pub one_hook : length rule.hooks ≡ 1
  pub labels : (i : ℕ) → IsTrue (has mask i) → i ≤ n
  pub params : AreGoodParams rule values

abbrev pub IsGoodStat : List Rule → ℕ → Stat → Type 0
IsGoodStat rules n (statements.Apply line) = IsGoodLine rules line
IsGoodStat rules n (statements.Each mask rule params) = IsGoodEach rules n mask rule params
IsGoodStat rules n _ = Unit {0}

-- a sound map of the schema
pub record IsSoundOf (schema : Schema) (map : Map) : Type 0 where
  pub schema_is : map.schema ≡ schema
  pub sound : IsSound map

-- the map is sound, and so is each to which its history can lead
pub record IsSoundState (schema : Schema) (state : State) : Type 0 where
  pub map : IsSoundOf schema state.map
  pub past : AllByRecursion (IsSoundOf schema) state.history.past
  pub future : AllByRecursion (IsSoundOf schema) state.history.future
  pub group : (group : Group) → state.history.group ≡ Some group → IsSoundOf schema group.map

-- a run of the statements, with its bounds, which leaves a sound state
pub record HasRun (rules : List Rule) (schema : Schema) (before : State) (entries : Entries) (stats : List Stat) : Type 0 where
  pub outcomes : List Outcome
  pub after : State
  pub bounds : Bounds
  pub run : IsRun rules before stats outcomes after
  pub sound : IsSoundState schema after
  pub within : IsRunWithin rules before entries stats outcomes after bounds

-- So does each script of such statements have a run, where they stand in an order that scripts have.
abbrev pub ScriptsHaveRuns : Type 0
ScriptsHaveRuns = (rules : List Rule) (map : Map) (stats : List Stat) → IsSchema map.schema → IsSound map → All (IsAccepted map.schema) rules → AllByRecursion (IsGoodStat rules (dimension map)) stats → AreInOrder false stats → HasRun rules map.schema (start_of map) no_entries stats
