-- What edits are that were prepared: a commit gives the map of the application.
use Rattle.std.specs.Prelude.{ℕ, ◌+◌, ◌*◌, ◌≤◌, length}
use Rattle.gm_model.specs.Applications.{Application, IsDone}
use Rattle.gm_model.specs.Maps.{IsSound}
use Rattle.gm_arena.specs.inner.ArenaAsMap.{as_map}
use Rattle.gm_arena.specs.inner.ArenaMap.{ArenaMap}
use Rattle.gm_commit.specs.inner.EditLists.{EditLists, AreEditsHere, AreEditsOf, HasSameRows, IsResultOf, cost_of}
use Rattle.gm_commit.specs.inner.OwnEdits.{OwnEdits, AreTouched}
use Rattle.gm_pending.specs.inner.Results.{PendingOf}

-- what a commit of the edits leaves in the arena: the result of each application that they are the edits of
abbrev pub IsCommittedOf : ArenaMap → EditLists → ArenaMap → Type 0
IsCommittedOf m edits after = (pending : PendingOf) → HasSameRows pending.map m → AreEditsOf pending edits → IsResultOf pending after

-- The arena has what a commit needs, and a commit leaves the map of the application.
pub record IsReadyToCommit (app : Application) (m : ArenaMap) (edits : OwnEdits) : Type 0 where
  pub here : AreEditsHere m edits.lists
  pub names : m.next + edits.lists.added ≤ m.reserved
  pub room : edits.lists.added ≤ m.spare + length edits.lists.removed
  pub done : (after : ArenaMap) → IsCommittedOf m edits.lists after → IsDone app (as_map after) edits.lists.added (length edits.lists.removed)
  pub sound : (after : ArenaMap) → IsCommittedOf m edits.lists after → IsSound (as_map after)
  pub touched : AreTouched m edits.lists edits.touched

-- what a commit takes, and besides four steps for each label of each dart that is touched, and two for each label of each that is added
abbrev pub cost_with_rows : ℕ → OwnEdits → ℕ
cost_with_rows dim edits = cost_of edits.lists + 4 * (dim + 1) * length edits.touched + 2 * (dim + 1) * edits.lists.added

-- how many rows the touched darts have before and after, and the added ones after
abbrev pub rows_of : OwnEdits → ℕ
rows_of edits = 2 * length edits.touched + edits.lists.added
