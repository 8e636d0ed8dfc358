-- What `grid` answers to its number: a grid of that many rows is made, the script is run on it, and a line tells what is left.
use Rattle.std.specs.Prelude.{◌≡◌, ℕ, ◌≤◌, ◌*◌, List, [], ◌∷◌, ◌++◌, map, Result, Ok, Err, codes, decimal}
use Rattle.std.specs.List.{count_by, range_with_len}
use Rattle.gm_cells.specs.Cells.{HasCells}
use Rattle.gm_cells.specs.CellsText.{listed}
use Rattle.gm_grid.specs.GridBook.{triangulation, stat_at}
use Rattle.gm_grid.specs.GridMap.{IsGridMap, grid_schema}
use Rattle.gm_model.specs.Statements.{Stat}
use Rattle.gm_model.specs.Maps.{Map, IsDart}
use Rattle.gm_model.specs.Orbits.{HasCount}
use Rattle.gm_model.specs.Rules.{Rule}
use Rattle.gm_model.specs.Runs.{Outcome, is_done, State, start_of, IsRun}
use Rattle.gm_plan.specs.inner.Plans.{PlanOf}
use Rattle.gm_run.specs.inner.Progress.{ArePlansFor, rules_of}
use Rattle.gm_tool.specs.Answer.{Answer, answers}
use Rattle.gm_tool.specs.declared.refusal.NoText.{NoText}
use Rattle.gm_tool.specs.declared.refusal.NoText.TheVariants as nothing
use Rattle.gm_tool.specs.declared.reply.Reply.{Reply}

-- the words are `grid` and a number from 1 to 100, as it is printed
pub record AsksGrid (words : List (List ℕ)) (m : ℕ) : Type 0 where
  pub is : words ≡ codes "grid" ∷ decimal m ∷ []
  pub least : 1 ≤ m
  pub greatest : m ≤ 100

-- ---- the run

abbrev pub grid_rules : List Rule
grid_rules = triangulation ∷ []

-- the rule at each square, ascending
abbrev pub grid_stats : ℕ → List Stat
grid_stats m = map stat_at (range_with_len 0 (m * m))

-- the grid, the outcomes of the statements, and the state that they leave
pub record Gridded : Type 0 where
  pub grid : Map
  pub outcomes : List Outcome
  pub after : State

pub record IsGridded (m : ℕ) (made : Gridded) : Type 0 where
  pub grid_is : IsGridMap m made.grid
  pub run : IsRun grid_rules (start_of made.grid) (grid_stats m) made.outcomes made.after

-- ---- the line

-- grid 2 applied 4 darts 96 next 96 cells 13 28 16
abbrev pub grid_line : ℕ → ℕ → ℕ → ℕ → List ℕ → List ℕ
grid_line m applied darts next cells =
    codes "grid " ++ decimal m ++ codes " applied " ++ decimal applied ++ codes " darts " ++ decimal darts ++ codes " next " ++ decimal next ++ codes " cells" ++ listed cells ++ codes "\n"

-- it tells how many lines are done, and of the map that is left the darts, the next name, and the cells by dimension
pub record TellsGrid (m : ℕ) (made : Gridded) (text : List ℕ) : Type 0 where
  pub darts : ℕ
  pub darts_are : HasCount (IsDart made.after.map) darts
  pub cells : List ℕ
  pub cells_are : HasCells made.after.map cells
  pub is : text ≡ grid_line m (count_by is_done made.outcomes) darts made.after.map.next cells

-- ---- the answer

abbrev pub IsGridText : ℕ → List ℕ → Type 0
IsGridText m text = (made : Gridded) × IsGridded m made × TellsGrid m made text

abbrev pub IsGridAnswer : ℕ → Answer → Type 0
IsGridAnswer m answer = (text : List ℕ) × IsGridText m text × (answer ≡ answers 0 text)

-- ---- what is made

-- the plans are those of the grid's rules
pub record AreGridPlans (plans : List PlanOf) : Type 0 where
  pub fit : ArePlansFor grid_schema plans
  pub rules : rules_of plans ≡ grid_rules

-- the line, with status 0; that memory ran out says nothing of it
abbrev pub IsGridReply : ℕ → Result Reply NoText → Type 0
IsGridReply m (Ok reply) = (reply.status ≡ 0) × IsGridText m reply.text.items
IsGridReply m (Err none) = none ≡ nothing.OutOfMemory
