-- What a run needs, and how far it came where memory ran out.
use Rattle.std.specs.Prelude.{◌≡◌, ℕ, ◌+◌, ◌≤◌, All, List, map, take, Option, Some, slice_get}
use Rattle.gm_model.specs.declared.schema.Schema.{Schema}
use Rattle.gm_model.specs.Statements.{Stat}
use Rattle.gm_model.specs.Statements as statements
use Rattle.gm_model.specs.declared.value.Value.{Value}
use Rattle.gm_model.specs.declared.word.Mask.{Mask}
use Rattle.gm_model.specs.Budgets.{Bounds, no_entries, IsRunWithin}
use Rattle.gm_model.specs.Maps.{Map}
use Rattle.gm_model.specs.Rules.{Rule, rule_of}
use Rattle.gm_model.specs.Runs.{Outcome, State, start_of, IsRun, Turn, AreLeads, AreTurns}
use Rattle.gm_plan.specs.inner.Plans.{PlanOf}

-- ---- what a run needs

abbrev pub rules_of : List PlanOf → List Rule
rules_of plans = map (λ (plan : PlanOf). rule_of plan.table) plans

-- the plan is for maps of the schema
abbrev pub IsPlanFor : Schema → PlanOf → Type 0
IsPlanFor schema plan = schema ≡ plan.schema

abbrev pub ArePlansFor : Schema → List PlanOf → Type 0
ArePlansFor schema plans = All (IsPlanFor schema) plans

-- ---- where memory ran out

-- the map of the state, or where an `each` is next, that after some of its applications, the first ones
pub data IsLeft (rules : List Rule) (state : State) (next : Option Stat) : Map → Type 0 where
  BehindAll : IsLeft rules state next state.map
  WithinEach : (mask : Mask) (rule : ℕ) (params : List Value) (leads : List ℕ) (some : ℕ) (turns : List Turn) (map : Map) → next ≡ Some (statements.Each mask rule params)
      → AreLeads state.map mask leads → AreTurns rules rule params state.map (take some leads) turns map → IsLeft rules state next map

-- Some of the statements were run, the first ones, and left this map. The steps are within the bounds of these and of the one after them, where there is one.
pub record IsCutShort (rules : List Rule) (before : Map) (stats : List Stat) (after : Map) (start steps : ℕ) : Type 0 where
  pub done : ℕ
  pub outcomes : List Outcome
  pub behind : State
  pub run : IsRun rules (start_of before) (take done stats) outcomes behind
  pub left : IsLeft rules behind (slice_get stats done) after
  pub most : (os : List Outcome) (end : State) (bounds : Bounds) → IsRunWithin rules (start_of before) no_entries (take (done + 1) stats) os end bounds → steps ≤ start + bounds.most
