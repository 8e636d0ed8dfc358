-- Where a run stands in the code, and what is known of a statement that it ran.
use Rattle.std.specs.Prelude.{◌≡◌, ℕ, ◌+◌, ◌<◌, ◌≤◌, true, false, List, take, Option, None, Some}
use Rattle.gm_model.specs.Statements.{Line, Stat}
use Rattle.gm_model.specs.Statements as statements
use Rattle.gm_model.specs.Applications.{Cause}
use Rattle.gm_model.specs.Budgets.{Bounds, Entries, HasStatBounds, IsLineBudget, entered}
use Rattle.gm_model.specs.Histories.{Group, History, done_at}
use Rattle.gm_model.specs.Maps.{Map}
use Rattle.gm_model.specs.Rules.{Rule}
use Rattle.gm_model.specs.Runs.{State, IsLineOutcome, IsStatOutcome}
use Rattle.gm_model.specs.Runs as runs
use Rattle.gm_commit.specs.declared.applied.Applied.{Applied}
use Rattle.gm_apply.specs.declared.refusal.Refusal.{Refusal}
use Rattle.gm_arena.specs.inner.ArenaAsMap.{as_map}
use Rattle.gm_arena.specs.inner.ArenaMap.{ArenaMap}
use Rattle.gm_undo.specs.inner.Costs.{MayTake}
use Rattle.gm_undo.specs.inner.Kept.{HistoryOf}
use Rattle.gm_undo.specs.inner.Standing.{StandsFor}
use Rattle.gm_run.specs.declared.outcome.Outcome.{Outcome}
use Rattle.gm_run.specs.declared.outcome.Outcome.TheVariants as outcomes
use Rattle.gm_run.specs.declared.standing.Open.{Open}
use Rattle.gm_run.specs.declared.standing.Open.TheVariants as opens
use Rattle.gm_run.specs.declared.standing.Standing.{Standing}
use Rattle.gm_run.specs.inner.Alike.{AreAlikeStates}
use Rattle.gm_run.specs.inner.Lines.{cause_of, outcome_of}
use Rattle.gm_run.specs.inner.Progress.{IsLeft}

-- ---- where a run stands

abbrev pub IsInGroup : Open → Type 0
IsInGroup opens.Nothing = ⊥
IsInGroup opens.Whole = Unit {0}
IsInGroup opens.Broken = Unit {0}

-- a statement that may stand where this group is open, or none
abbrev pub IsAllowed : Open → Stat → Type 0
IsAllowed opened (statements.Apply line) = Unit {0}
IsAllowed opened statements.End = IsInGroup opened
IsAllowed opened _ = opened ≡ opens.Nothing

-- the state has this group open, broken or not, or none
abbrev pub HasOpen : Open → State → Type 0
HasOpen opens.Nothing state = (state.history.group ≡ None) × (state.is_broken ≡ false)
HasOpen opens.Whole state = (group : Group) × (state.history.group ≡ Some group) × (state.is_broken ≡ false)
HasOpen opens.Broken state = (group : Group) × (state.history.group ≡ Some group) × (state.is_broken ≡ true)

-- a statement that can't be run without what is kept of those before it
abbrev pub NeedsHistory : Stat → Type 0
NeedsHistory (statements.Apply line) = ⊥
NeedsHistory (statements.Each mask rule params) = ⊥
NeedsHistory _ = Unit {0}

-- how often it goes to another map that is remembered
abbrev pub going : Stat → ℕ
going statements.Undo = 1
going statements.Redo = 1
going _ = 0

-- ---- what is kept

-- this many of the maps of the past and of the future, the nearest ones
abbrev pub nearest : ℕ → ℕ → History → History
nearest past future told = record { past = take past told.past; future = take future told.future; group = told.group }

abbrev pub nearest_entries : ℕ → ℕ → Entries → Entries
nearest_entries past future entries = record { past = take past entries.past; future = take future entries.future; group = entries.group }

-- the history stands for this one as far as this many statements can go, back or on
pub record Recalls (reach : ℕ) (history : HistoryOf) (m : ArenaMap) (told : History) : Type 0 where
  pub past : ℕ
  pub future : ℕ
  pub past_far : reach ≤ past
  pub future_far : reach ≤ future
  pub stands : StandsFor history m (nearest past future told)

-- and each entry that they can go to may take so much
pub record MayRecall (reach : ℕ) (history : HistoryOf) (dim : ℕ) (entries : Entries) : Type 0 where
  pub past : ℕ
  pub future : ℕ
  pub past_far : reach ≤ past
  pub future_far : reach ≤ future
  pub costs : MayTake history dim (nearest_entries past future entries)

-- where the history is kept, it stands for this one as far as it is needed
abbrev pub Remembers : Standing → ArenaMap → History → Type 0
Remembers standing m told = standing.keeps.on ≡ true → Recalls standing.keeps.reach standing.history m told

-- and each entry of it may take so much
abbrev pub MayGoBack : Standing → ℕ → Entries → Type 0
MayGoBack standing dim entries = standing.keeps.on ≡ true → MayRecall standing.keeps.reach standing.history dim entries

-- it is kept where a statement to come goes back or on, and where a group is open
pub record KeepsEnough (standing : Standing) : Type 0 where
  pub reaches : 0 < standing.keeps.reach → standing.keeps.on ≡ true
  pub grouped : IsInGroup standing.group → standing.keeps.on ≡ true

-- the arena has the state's map, and what is kept beside it is the rest of the state, with so much for each entry
pub record StandsAt (standing : Standing) (m : ArenaMap) (state : State) (entries : Entries) : Type 0 where
  pub map : state.map ≡ as_map m
  pub history : Remembers standing m state.history
  pub costs : MayGoBack standing m.schema.dim entries
  pub group : HasOpen standing.group state

-- ---- a statement

-- It is a step from the state to another, where the run stands now, as its outcome tells, and the steps are within its bounds.
pub record HasStep (rules : List Rule) (state : State) (entries : Entries) (stat : Stat) (outcome : Outcome) (standing : Standing) (m : ArenaMap) (start steps : ℕ) : Type 0 where
  pub told : runs.Outcome
  pub tells : outcome_of outcome ≡ Some told
  pub after : State
  pub step : IsStatOutcome rules state stat told after
  pub bounds : Bounds
  pub behind : Entries
  pub has : HasStatBounds rules state entries stat told bounds behind
  pub stands : StandsAt standing m after behind
  pub least : start + bounds.least ≤ steps
  pub most : steps ≤ start + bounds.most

-- Memory ran out at the statement. The map is as it was, or an `each` was done in part, and the steps are within whatever bounds the statement has at a state alike.
pub record IsStopped (rules : List Rule) (state : State) (stat : Stat) (after : Map) (start steps : ℕ) : Type 0 where
  pub left : IsLeft rules state (Some stat) after
  pub most : (other end : State) (entries behind : Entries) (outcome : runs.Outcome) (bounds : Bounds) → AreAlikeStates other state → IsStatOutcome rules other stat outcome end → HasStatBounds rules other entries stat outcome bounds behind → steps ≤ start + bounds.most

-- ---- an application

-- The line took the map from one to another, as its outcome tells, within whatever budget it has, and with a step for each dart that it changed.
pub data HasLine (rules : List Rule) (before : Map) (line : Line) (after : Map) (start steps : ℕ) : Outcome → Type 0 where
  WasDone : (applied : Applied) → IsLineOutcome rules before line (runs.Done applied.added applied.removed) after → ((most : ℕ) → IsLineBudget rules before line most → steps ≤ start + most) → start + (applied.added + applied.removed) ≤ steps
      → HasLine rules before line after start steps (outcomes.Done applied)
  WasRefused : (refusal : Refusal) (cause : Cause) → cause_of refusal ≡ Some cause → IsLineOutcome rules before line (runs.Refused cause) after → ((most : ℕ) → IsLineBudget rules before line most → steps ≤ start + most) → start ≤ steps
      → HasLine rules before line after start steps (outcomes.Refused refusal)

-- memory ran out at the line, which left the map, within whatever budget it has
pub record IsUnapplied (rules : List Rule) (before : Map) (line : Line) (after : Map) (start steps : ℕ) : Type 0 where
  pub same : after ≡ before
  pub most : (most : ℕ) → IsLineBudget rules before line most → steps ≤ start + most

-- what is remembered after an application at the map
abbrev pub told_behind : Outcome → Map → History → History
told_behind (outcomes.Done applied) map told = done_at map told
told_behind _ map told = told

-- and what may be taken for it
abbrev pub entered_by : Outcome → Option Group → ℕ → Entries → Entries
entered_by (outcomes.Done applied) group most entries = entered group most entries
entered_by _ group most entries = entries

-- the open group after an application: one that is refused breaks it
abbrev pub group_behind : Outcome → Open → Open
group_behind (outcomes.Refused refusal) opens.Whole = opens.Broken
group_behind _ opened = opened
