-- How far the applications of an `each` have come, which are done in a group of the history.
use Rattle.std.specs.Prelude.{◌≡◌, ℕ, zero, suc, ◌+◌, ◌≤◌, true, List, [], Option, None, Some, length, take}
use Rattle.std.specs.List.{count_by}
use Rattle.gm_model.specs.declared.value.Value.{Value}
use Rattle.gm_model.specs.Budgets.{Entries, TurnCosts, AreTurnCosts}
use Rattle.gm_model.specs.Histories.{Group, History, begun_at}
use Rattle.gm_model.specs.Maps.{Map, IsDart}
use Rattle.gm_model.specs.Rules.{Rule}
use Rattle.gm_model.specs.Runs.{Turn, AreTurns, is_done_turn, is_passed, is_refused_turn, line_at}
use Rattle.gm_arena.specs.inner.ArenaAsMap.{as_map}
use Rattle.gm_arena.specs.inner.ArenaMap.{ArenaMap}
use Rattle.gm_run.specs.declared.each.Counts.{Counts}
use Rattle.gm_run.specs.declared.outcome.Outcome.{Outcome}
use Rattle.gm_run.specs.declared.outcome.Outcome.TheVariants as outcomes
use Rattle.gm_run.specs.declared.standing.Standing.{Standing}
use Rattle.gm_run.specs.inner.Alike.{AreAlike}
use Rattle.gm_run.specs.inner.Standing.{HasLine, IsUnapplied, MayGoBack, Remembers, entered_by, told_behind}

-- what is remembered in the group that began at the map, where this many applications of it were done
abbrev pub within_turns : Map → History → ℕ → History
within_turns map history zero = begun_at map history
within_turns map history (suc done) = record { past = history.past; future = []; group = Some (record { map = map; is_changed = true }) }

-- and what may be taken for it
abbrev pub entered_turns : Entries → ℕ → ℕ → Entries
entered_turns entries zero most = record { past = entries.past; future = entries.future; group = most }
entered_turns entries (suc done) most = record { past = entries.past; future = []; group = most }

-- ---- one turn

-- the dart is one no more, or the rule was applied at it, and one step says which
abbrev pub HasTurn : List Rule → ℕ → List Value → Map → ℕ → Option Outcome → Map → ℕ → ℕ → Type 0
HasTurn rules rule params before d None after start steps = (IsDart before d → ⊥) × (after ≡ before) × (steps ≡ start + 1)
HasTurn rules rule params before d (Some outcome) after start steps = IsDart before d × HasLine rules before (line_at rule params d) after (start + 1) steps outcome

-- the rule was to be applied at it, and memory ran out
abbrev pub StopsAtTurn : List Rule → ℕ → List Value → Map → ℕ → Map → ℕ → ℕ → Type 0
StopsAtTurn rules rule params before d after start steps = IsDart before d × IsUnapplied rules before (line_at rule params d) after (start + 1) steps

-- what is remembered after a turn at the map
abbrev pub told_by : Option Outcome → Map → History → History
told_by None map history = history
told_by (Some outcome) map history = told_behind outcome map history

-- and what may be taken for it
abbrev pub entered_by_turn : Option Outcome → Option Group → ℕ → Entries → Entries
entered_by_turn None group most entries = entries
entered_by_turn (Some outcome) group most entries = entered_by outcome group most entries

-- ---- turns

-- the turns at the darts, one after another, the map that they leave, and what they cost
abbrev pub AreTallied : List Rule → ℕ → List Value → Map → List ℕ → List Turn → TurnCosts → Map → Type 0
AreTallied rules rule params before leads turns costs after = AreTurns rules rule params before leads turns after × AreTurnCosts rules turns costs

-- how many of the turns were done, refused and passed over
pub record Tells (counts : Counts) (turns : List Turn) : Type 0 where
  pub done : counts.done ≡ count_by is_done_turn turns
  pub refused : counts.refused ≡ count_by is_refused_turn turns
  pub passed : counts.passed ≡ count_by is_passed turns

-- one turn more
abbrev pub counted : Counts → Option Outcome → Counts
counted counts None = record { done = counts.done; refused = counts.refused; passed = counts.passed + 1 }
counted counts (Some (outcomes.Done applied)) = record { done = counts.done + 1; refused = counts.refused; passed = counts.passed }
counted counts (Some _) = record { done = counts.done; refused = counts.refused + 1; passed = counts.passed }

-- All turns were taken, within what they cost, with a step more for each dart. They were done in a group that began at the map.
pub record HaveTurns (rules : List Rule) (rule : ℕ) (params : List Value) (before : Map) (history : History) (entries : Entries) (leads : List ℕ) (counts : Counts) (standing : Standing) (m : ArenaMap) (start steps : ℕ) : Type 0 where
  pub turns : List Turn
  pub costs : TurnCosts
  pub tallied : AreTallied rules rule params before leads turns costs (as_map m)
  pub tells : Tells counts turns
  pub stands : Remembers standing m (within_turns before history (count_by is_done_turn turns))
  pub may_take : MayGoBack standing m.schema.dim (entered_turns entries (count_by is_done_turn turns) costs.done)
  pub least : start + costs.least ≤ steps
  pub most : steps ≤ start + costs.most + length leads

-- Memory ran out after some of the turns, the first ones. The steps are within whatever all of them cost at a map alike.
pub record StopsWithin (rules : List Rule) (rule : ℕ) (params : List Value) (before : Map) (leads : List ℕ) (after : Map) (start steps : ℕ) : Type 0 where
  pub some : ℕ
  pub turns : List Turn
  pub are : AreTurns rules rule params before (take some leads) turns after
  pub most : (other end : Map) (others : List Turn) (costs : TurnCosts) → AreAlike other before → AreTurns rules rule params other leads others end → AreTurnCosts rules others costs → steps ≤ start + costs.most + length leads
