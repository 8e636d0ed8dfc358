-- How a history keeps its changes: each by the numbers of its rows. No public clause cites this module.
use Rattle.std.specs.Prelude.{◌≡◌, ℕ, zero, suc, ◌≤◌, false, List, length, map, Option, Some, slice_get, slice_index_or, slice_range}
use Rattle.gm_undo.specs.declared.keeping.Made.{Made}
use Rattle.gm_undo.specs.inner.Flat.{RowsOf}
use Rattle.gm_undo.specs.inner.Kept.{KeptRow, Change, HistoryOf}

abbrev pub change_in : List KeptRow → Made → Change
change_in rows made = record {
  begins = made.begins;
  before = slice_range rows made.first made.middle;
  next_before = made.next_before;
  after = slice_range rows made.middle made.end;
  next_after = made.next_after;
}

abbrev pub changes_in : List KeptRow → List Made → List Change
changes_in rows changes = map (change_in rows) changes

abbrev pub history_of : RowsOf → List Made → ℕ → Option ℕ → HistoryOf
history_of rows changes made group = record { labels = rows.labels; width = rows.width; changes = changes_in rows.rows changes; made = made; group = group }

-- the change of this number
abbrev pub made_at : List Made → ℕ → Made
made_at changes k = slice_index_or changes k (record { begins = false; first = 0; middle = 0; end = 0; next_before = 0; next_after = 0 })

-- where the rows of the first changes end
abbrev pub end_of : List Made → ℕ → ℕ
end_of changes zero = 0
end_of changes (suc k) = (made_at changes k).end

-- the rows of the changes lie one after another
pub record IsLaidOut (rows : List KeptRow) (changes : List Made) (made : ℕ) (group : Option ℕ) : Type 0 where
  pub first : (k : ℕ) (change : Made) → slice_get changes k ≡ Some change → change.first ≡ end_of changes k
  pub middle : (k : ℕ) (change : Made) → slice_get changes k ≡ Some change → change.first ≤ change.middle
  pub end : (k : ℕ) (change : Made) → slice_get changes k ≡ Some change → change.middle ≤ change.end
  pub ends : length rows ≡ end_of changes (length changes)
  pub within : made ≤ length changes
  pub group_within : (start : ℕ) → group ≡ Some start → start ≤ made
