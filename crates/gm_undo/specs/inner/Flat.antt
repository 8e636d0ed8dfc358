-- How rows are kept: names, neighbours and values in lists of their own, a fixed number for each row. No public clause cites this module.
use Rattle.std.specs.Prelude.{◌≡◌, ℕ, ◌*◌, ◌≤◌, Bool, true, false, List, [], length, map, slice_index, slice_index_or, refl}
use Rattle.std.specs.Coded.{Coded, code_by, coded×, coded_ℕ, coded_list}
use Rattle.std.specs.List.{range_with_len}
use Rattle.gm_model.specs.declared.value.Value.{Value}
use Rattle.gm_arena.specs.inner.Parts.{part_of}
use Rattle.gm_undo.specs.inner.Kept.{KeptRow, row_code}

-- what contracts see of kept rows
pub record RowsOf : Type 0 where
  pub labels : ℕ
  pub width : ℕ
  -- for how many rows there is room
  pub room : ℕ
  pub rows : List KeptRow

abbrev pub rows_code : Coded RowsOf
rows_code =
    code_by
    (ℕ × (ℕ × (ℕ × List KeptRow)))
    (coded× coded_ℕ (coded× coded_ℕ (coded× coded_ℕ (coded_list row_code))))
    (λ r. (r.labels, (r.width, (r.room, r.rows))))
    (λ p. record { labels = p.0; width = p.1.0; room = p.1.1.0; rows = p.1.1.1 })
    (λ _. refl)

-- the row of this number
abbrev pub row_in : List KeptRow → ℕ → KeptRow
row_in rows k = slice_index_or rows k (record { name = 0; stays = false; dart = record { alphas = []; values = [] } })

-- the row, of a dart that is on the other side too
abbrev pub staying : KeptRow → KeptRow
staying row = record { name = row.name; stays = true; dart = row.dart }

abbrev pub flat_row : ℕ → ℕ → List ℕ → List Bool → List ℕ → List Value → ℕ → KeptRow
flat_row labels width names stays neighbours values k = record {
  name = slice_index names k;
  stays = slice_index_or stays k false;
  dart = record { alphas = part_of labels neighbours k; values = part_of width values k };
}

abbrev pub flat_rows : ℕ → ℕ → ℕ → List ℕ → List Bool → List ℕ → List Value → RowsOf
flat_rows labels width room names stays neighbours values = record {
  labels = labels;
  width = width;
  room = room;
  rows = map (flat_row labels width names stays neighbours values) (range_with_len 0 (length names));
}

-- the lists have their entries for each row, and room for this many rows
pub record AreFlat (labels width room names stays neighbours values names_room stays_room neighbours_room values_room : ℕ) : Type 0 where
  pub stays_long : stays ≡ names
  pub neighbours_long : neighbours ≡ names * labels
  pub values_long : values ≡ names * width
  pub names_fit : room ≤ names_room
  pub stays_fit : room ≤ stays_room
  pub neighbours_fit : room * labels ≤ neighbours_room
  pub values_fit : room * width ≤ values_room
