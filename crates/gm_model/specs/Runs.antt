-- What a run of a script is: the outcomes of its statements, and the maps and histories that they leave.
use Rattle.std.specs.Prelude.{◌≡◌, ℕ, zero, suc, Bool, true, false, List, [], ◌∷◌, Some, None, is_some, slice_get}
use Rattle.std.specs.List.{count_by}
use Rattle.std.specs.List.Sorted.{IsStrictlyIncreasing}
use Rattle.gm_model.specs.Statements.{Line, Stat}
use Rattle.gm_model.specs.Statements as statements
use Rattle.gm_model.specs.declared.value.Value.{Value}
use Rattle.gm_model.specs.declared.word.Mask.{Mask}
use Rattle.gm_model.specs.Applications.{Application, Cause, IsDone, IsRefused}
use Rattle.gm_model.specs.Histories.{Group, History, no_history, done_at, IsUndone, IsRedone, begun_at, kept, dropped}
use Rattle.gm_model.specs.Labels.{has}
use Rattle.gm_model.specs.Maps.{Map, IsDart}
use Rattle.gm_model.specs.Orbits.{IsLead, IsListOf}
use Rattle.gm_model.specs.Rules.{Rule}

-- what became of a statement
pub data Outcome : Type 0 where
  -- an application was done, with this many darts added and this many removed
  Done : ℕ → ℕ → Outcome
  Refused : Cause → Outcome
  -- in a group that an earlier refusal broke
  Skipped : Outcome
  Undone : Outcome
  Redone : Outcome
  NothingToUndo : Outcome
  NothingToRedo : Outcome
  Begun : Outcome
  -- the group stands
  Kept : Outcome
  -- the group was broken, and its applications were taken back
  Dropped : Outcome
  -- how many applications of an `each` were done and how many refused, and how many darts were passed over
  Each : ℕ → ℕ → ℕ → Outcome

-- ---- one application

-- the outcome of an application, and the map after it, which a refused one leaves as it was
abbrev pub IsOutcome : Application → Outcome → Map → Type 0
IsOutcome app (Done added removed) after = IsDone app after added removed
IsOutcome app (Refused cause) after = IsRefused app cause × (after ≡ app.map)
IsOutcome app _ after = ⊥

-- what the line applies to the map, where this is its rule
abbrev pub application_by : Map → Rule → Line → Application
application_by before rule line = record { map = before; rule = rule; hooks = line.hooks; params = line.params }

-- the outcome of the line at the map, and the map after it
pub record IsLineOutcome (rules : List Rule) (before : Map) (line : Line) (outcome : Outcome) (after : Map) : Type 0 where
  pub rule : Rule
  pub rule_is : slice_get rules line.rule ≡ Some rule
  pub outcome_is : IsOutcome (application_by before rule line) outcome after

-- an application that was done
abbrev pub is_done : Outcome → Bool
is_done (Done added removed) = true
is_done _ = false

-- ---- one application for each orbit

-- the least dart of each orbit over the labels, in ascending order
pub record AreLeads (map : Map) (mask : Mask) (leads : List ℕ) : Type 0 where
  pub ascending : IsStrictlyIncreasing leads
  pub same : IsListOf (IsLead (IsDart map) map.alpha (has mask)) leads

-- the line that an `each` stands for at a dart
abbrev pub line_at : ℕ → List Value → ℕ → Line
line_at rule params d = record { rule = rule; hooks = d ∷ []; params = params }

-- what became of a dart when its turn came
pub data Turn : Type 0 where
  -- this line was applied to this map
  Taken : Map → Line → Outcome → Turn
  -- it was a dart no more
  Passed : Turn

abbrev pub is_done_turn : Turn → Bool
is_done_turn (Taken before line outcome) = is_done outcome
is_done_turn Passed = false

abbrev pub is_refused_turn : Turn → Bool
is_refused_turn (Taken before line (Refused cause)) = true
is_refused_turn _ = false

abbrev pub is_passed : Turn → Bool
is_passed Passed = true
is_passed _ = false

-- how many were done, refused, and passed over
abbrev pub told : List Turn → Outcome
told turns = Each (count_by is_done_turn turns) (count_by is_refused_turn turns) (count_by is_passed turns)

-- The darts one after another, each at the map that the one before it left, and the map after them.
abbrev pub AreTurns : List Rule → ℕ → List Value → Map → List ℕ → List Turn → Map → Type 0
AreTurns rules rule params before [] [] after = after ≡ before
AreTurns rules rule params before (d ∷ ds) (Taken map line outcome ∷ turns) after =
    IsDart before d × (map ≡ before) × (line ≡ line_at rule params d) × (between : Map) × IsLineOutcome rules before (line_at rule params d) outcome between × AreTurns rules rule params between ds turns after
AreTurns rules rule params before (d ∷ ds) (Passed ∷ turns) after = (IsDart before d → ⊥) × AreTurns rules rule params before ds turns after
AreTurns rules rule params before _ _ after = ⊥

-- ---- one statement

-- where a run stands
pub record State : Type 0 where
  pub map : Map
  pub history : History
  -- whether an application of the open group was refused
  pub is_broken : Bool

-- no application of an open group was refused yet
abbrev pub standing_at : Map → History → State
standing_at map history = record { map = map; history = history; is_broken = false }

-- where it begins
abbrev pub start_of : Map → State
start_of map = standing_at map no_history

-- after applications that left this map, and of which one was done at least
abbrev pub behind_done : State → Map → State
behind_done state after = record { map = after; history = done_at state.map state.history; is_broken = state.is_broken }

-- after an application that was refused: in a group it breaks the group
abbrev pub behind_refused : State → State
behind_refused state = record { map = state.map; history = state.history; is_broken = is_some state.history.group }

-- after an `each`, which is one entry of the past where an application of it was done
abbrev pub behind_each : State → ℕ → Map → State
behind_each state zero after = state
behind_each state (suc done) after = behind_done state after

module _ (rules : List Rule) where
  -- the outcome of the statement, and where the run stands then
  pub data IsStatOutcome (state : State) : Stat → Outcome → State → Type 0 where
    IsDoneHere : (line : Line) (added removed : ℕ) (after : Map) → state.is_broken ≡ false → IsLineOutcome rules state.map line (Done added removed) after
        → IsStatOutcome state (statements.Apply line) (Done added removed) (behind_done state after)
    IsRefusedHere : (line : Line) (cause : Cause) → state.is_broken ≡ false → IsLineOutcome rules state.map line (Refused cause) state.map
        → IsStatOutcome state (statements.Apply line) (Refused cause) (behind_refused state)
    IsSkipped : (line : Line) → state.is_broken ≡ true → IsStatOutcome state (statements.Apply line) Skipped state
    GoesBack : (before : Map) (history : History) → IsUndone state.map state.history before history → IsStatOutcome state statements.Undo Undone (standing_at before history)
    HasNoPast : state.history.group ≡ None → state.history.past ≡ [] → IsStatOutcome state statements.Undo NothingToUndo state
    GoesForth : (after : Map) (history : History) → IsRedone state.map state.history after history → IsStatOutcome state statements.Redo Redone (standing_at after history)
    HasNoFuture : state.history.group ≡ None → state.history.future ≡ [] → IsStatOutcome state statements.Redo NothingToRedo state
    Begins : state.history.group ≡ None → IsStatOutcome state statements.Group Begun (standing_at state.map (begun_at state.map state.history))
    Ends : (group : Group) → state.history.group ≡ Some group → state.is_broken ≡ false → IsStatOutcome state statements.End Kept (standing_at state.map (kept group state.history))
    IsTakenBack : (group : Group) → state.history.group ≡ Some group → state.is_broken ≡ true → IsStatOutcome state statements.End Dropped (standing_at group.map (dropped state.history))
    GoesOver : (mask : Mask) (rule : ℕ) (params : List Value) (leads : List ℕ) (turns : List Turn) (after : Map) → state.history.group ≡ None
        → AreLeads state.map mask leads → AreTurns rules rule params state.map leads turns after
        → IsStatOutcome state (statements.Each mask rule params) (told turns) (behind_each state (count_by is_done_turn turns) after)

-- ---- the statements of a script

-- The outcomes of the statements, one after another, and where the run stands after them.
abbrev pub IsRun : List Rule → State → List Stat → List Outcome → State → Type 0
IsRun rules before [] [] after = after ≡ before
IsRun rules before (stat ∷ stats) (outcome ∷ outcomes) after = (between : State) × IsStatOutcome rules before stat outcome between × IsRun rules between stats outcomes after
IsRun rules before _ _ after = ⊥

-- In a group there are applications alone, and each group ends. The truth says whether a group is open.
abbrev pub AreInOrder : Bool → List Stat → Type 0
AreInOrder within [] = within ≡ false
AreInOrder within (statements.Apply line ∷ rest) = AreInOrder within rest
AreInOrder within (statements.Group ∷ rest) = (within ≡ false) × AreInOrder true rest
AreInOrder within (statements.End ∷ rest) = (within ≡ true) × AreInOrder false rest
AreInOrder within (stat ∷ rest) = (within ≡ false) × AreInOrder within rest
