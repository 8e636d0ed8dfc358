-- How many steps a run of a script takes, at least and at most.
use Rattle.std.specs.Prelude.{◌≡◌, ℕ, zero, suc, ◌+◌, ◌*◌, if◌then◌else◌, List, [], ◌∷◌, Option, Some, None, slice_get}
use Rattle.std.specs.List.{count_by}
use Rattle.gm_model.specs.Statements.{Line, Stat}
use Rattle.gm_model.specs.Statements as statements
use Rattle.gm_model.specs.declared.value.Value.{Value}
use Rattle.gm_model.specs.declared.word.Mask.{Mask}
use Rattle.gm_model.specs.Applications.{Cause, IsBudget}
use Rattle.gm_model.specs.Histories.{Group}
use Rattle.gm_model.specs.Maps.{Map, IsDart, dimension}
use Rattle.gm_model.specs.Orbits.{HasCount}
use Rattle.gm_model.specs.Rules.{Rule}
use Rattle.gm_model.specs.Runs.{Outcome, Turn, Taken, Passed, State, application_by, is_done, is_done_turn, AreLeads, AreTurns, told, IsStatOutcome}
use Rattle.gm_model.specs.Runs as runs

-- the most steps that the line may take at the map
pub record IsLineBudget (rules : List Rule) (before : Map) (line : Line) (most : ℕ) : Type 0 where
  pub rule : Rule
  pub rule_is : slice_get rules line.rule ≡ Some rule
  pub budget : IsBudget (application_by before rule line) most

-- how many darts an application added and removed, at least one step for each
abbrev pub changed_darts : Outcome → ℕ
changed_darts (runs.Done added removed) = added + removed
changed_darts _ = 0

-- what an application may take where it was done, else 0: no other is taken back or brought again
abbrev pub done_part : Outcome → ℕ → ℕ
done_part outcome most = if is_done outcome then most else 0

-- ---- one application for each orbit

-- the least and the most of the applications together, and what of the most those that were done may take
pub record TurnCosts : Type 0 where
  pub least : ℕ
  pub most : ℕ
  pub done : ℕ

abbrev pub AreTurnCosts : List Rule → List Turn → TurnCosts → Type 0
AreTurnCosts rules [] costs = costs ≡ record { least = 0; most = 0; done = 0 }
AreTurnCosts rules (Taken before line outcome ∷ turns) costs =
    (most : ℕ) × (rest : TurnCosts) × IsLineBudget rules before line most × AreTurnCosts rules turns rest × (costs ≡ record { least = changed_darts outcome + rest.least; most = most + rest.most; done = done_part outcome most + rest.done })
AreTurnCosts rules (Passed ∷ turns) costs = AreTurnCosts rules turns costs

-- ---- what goes back costs

-- Of each entry of the past and of the future, and of the open group, what its applications that were done may take. To
-- take an entry back or to bring it again may take as much. Where no group is open, its number says nothing.
pub record Entries : Type 0 where
  pub past : List ℕ
  pub future : List ℕ
  pub group : ℕ

abbrev pub no_entries : Entries
no_entries = record { past = []; future = []; group = 0 }

-- after applications that were done and may take so much
abbrev pub entered : Option Group → ℕ → Entries → Entries
entered None most entries = record { past = most ∷ entries.past; future = []; group = entries.group }
entered (Some group) most entries = record { past = entries.past; future = []; group = most + entries.group }

-- after a group that is kept
abbrev pub group_entered : Group → Entries → Entries
group_entered group entries = record { past = if group.is_changed then entries.group ∷ entries.past else entries.past; future = entries.future; group = entries.group }

-- after an `each`, of whose applications this many were done
abbrev pub each_entered : ℕ → ℕ → Entries → Entries
each_entered zero most entries = entries
each_entered (suc done) most entries = entered None most entries

-- ---- one statement

-- the fewest and the most steps
pub record Bounds : Type 0 where
  pub least : ℕ
  pub most : ℕ

abbrev pub up_to : ℕ → Bounds
up_to most = record { least = 0; most = most }

module _ (rules : List Rule) where
  -- the bounds of the statement at the state, where this is its outcome, and the entries after it
  pub data HasStatBounds (state : State) (entries : Entries) : Stat → Outcome → Bounds → Entries → Type 0 where
    OfDone : (line : Line) (added removed most : ℕ) → IsLineBudget rules state.map line most
        → HasStatBounds state entries (statements.Apply line) (runs.Done added removed) (record { least = added + removed; most = most }) (entered state.history.group most entries)
    OfRefused : (line : Line) (cause : Cause) (most : ℕ) → IsLineBudget rules state.map line most → HasStatBounds state entries (statements.Apply line) (runs.Refused cause) (up_to most) entries
    OfSkipped : (line : Line) → HasStatBounds state entries (statements.Apply line) runs.Skipped (up_to 0) entries
    OfUndone : (most : ℕ) (rest : List ℕ) → entries.past ≡ most ∷ rest
        → HasStatBounds state entries statements.Undo runs.Undone (up_to most) (record { past = rest; future = most ∷ entries.future; group = entries.group })
    OfNoPast : HasStatBounds state entries statements.Undo runs.NothingToUndo (up_to 0) entries
    OfRedone : (most : ℕ) (rest : List ℕ) → entries.future ≡ most ∷ rest
        → HasStatBounds state entries statements.Redo runs.Redone (up_to most) (record { past = most ∷ entries.past; future = rest; group = entries.group })
    OfNoFuture : HasStatBounds state entries statements.Redo runs.NothingToRedo (up_to 0) entries
    OfBegun : HasStatBounds state entries statements.Group runs.Begun (up_to 0) (record { past = entries.past; future = entries.future; group = 0 })
    OfKept : (group : Group) → state.history.group ≡ Some group → HasStatBounds state entries statements.End runs.Kept (up_to 0) (group_entered group entries)
    OfDropped : HasStatBounds state entries statements.End runs.Dropped (up_to entries.group) entries
    OfEach : (mask : Mask) (rule : ℕ) (params : List Value) (leads : List ℕ) (turns : List Turn) (after : Map) (costs : TurnCosts) (darts : ℕ)
        → AreLeads state.map mask leads → AreTurns rules rule params state.map leads turns after → AreTurnCosts rules turns costs → HasCount (IsDart state.map) darts
        → HasStatBounds state entries (statements.Each mask rule params) (told turns)
        (record { least = costs.least; most = costs.most + 12 * (dimension state.map + 1) * (darts + 1) }) (each_entered (count_by is_done_turn turns) costs.done entries)

-- ---- the statements of a script

-- the run, and the sums of the bounds of its statements, each at the state that the statement is met in
abbrev pub IsRunWithin : List Rule → State → Entries → List Stat → List Outcome → State → Bounds → Type 0
IsRunWithin rules before entries [] [] after bounds = (after ≡ before) × (bounds ≡ up_to 0)
IsRunWithin rules before entries (stat ∷ stats) (outcome ∷ outcomes) after bounds =
    (between : State) × (behind : Entries) × (first : Bounds) × (rest : Bounds) × IsStatOutcome rules before stat outcome between × HasStatBounds rules before entries stat outcome first behind
    × IsRunWithin rules between behind stats outcomes after rest × (bounds ≡ record { least = first.least + rest.least; most = first.most + rest.most })
IsRunWithin rules before entries _ _ after bounds = ⊥
