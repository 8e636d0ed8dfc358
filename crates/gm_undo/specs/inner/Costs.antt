-- What it takes at most to take entries back, or to bring them again.
use Rattle.std.specs.Prelude.{ℕ, ◌+◌, ◌*◌, ◌≤◌, List, length, map, sum, take}
use Rattle.gm_model.specs.Budgets.{Entries}
use Rattle.gm_undo.specs.inner.Kept.{Change, HistoryOf}
use Rattle.gm_undo.specs.inner.Standing.{TellsBack, TellsOn, group_start}

-- how many rows it has
abbrev pub rows_of : Change → ℕ
rows_of change = length change.before + length change.after

-- seven steps for each label of each row of the first changes
abbrev pub cost_to : ℕ → List Change → ℕ → ℕ
cost_to dim changes k = 7 * (dim + 1) * sum (map rows_of (take k changes))

-- Each entry, and the open group, may take as much as is told of it, in maps of this dimension.
pub record MayTake (history : HistoryOf) (dim : ℕ) (entries : Entries) : Type 0 where
  pub past : TellsBack history.changes (λ start end most. cost_to dim history.changes end ≤ cost_to dim history.changes start + most) (group_start history) entries.past
  pub future : TellsOn history.changes (λ start end most. cost_to dim history.changes end ≤ cost_to dim history.changes start + most) history.made entries.future
  pub group : cost_to dim history.changes history.made ≤ cost_to dim history.changes (group_start history) + entries.group
