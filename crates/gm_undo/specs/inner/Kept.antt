-- What contracts see of a history: the changes that applications made, one after another, by the rows of the darts that each changed.
use Rattle.std.specs.Prelude.{ℕ, Bool, List, Option, refl}
use Rattle.std.specs.Coded.{Coded, code_by, coded×, coded_ℕ, coded_bool, coded_list, coded_option}
use Rattle.gm_arena.specs.inner.ArenaMap.{Dart, dart_code}

-- a dart on one side of a change
pub record KeptRow : Type 0 where
  pub name : ℕ
  -- whether it is a dart on the other side too
  pub stays : Bool
  pub dart : Dart

-- what one application made of the map
pub record Change : Type 0 where
  -- whether an entry of the past or the future begins with it; else it belongs to the entry of the change before it
  pub begins : Bool
  pub before : List KeptRow
  pub next_before : ℕ
  pub after : List KeptRow
  pub next_after : ℕ

pub record HistoryOf : Type 0 where
  -- how many neighbours and values the kept rows have
  pub labels : ℕ
  pub width : ℕ
  pub changes : List Change
  -- how many of them are made; the others were taken back
  pub made : ℕ
  -- where a group is open, how many were made where it began
  pub group : Option ℕ

abbrev pub row_code : Coded KeptRow
row_code =
    code_by
    (ℕ × (Bool × Dart))
    (coded× coded_ℕ (coded× coded_bool dart_code))
    (λ r. (r.name, (r.stays, r.dart)))
    (λ p. record { name = p.0; stays = p.1.0; dart = p.1.1 })
    (λ _. refl)

abbrev pub change_code : Coded Change
change_code =
    code_by
    (Bool × (List KeptRow × (ℕ × (List KeptRow × ℕ))))
    (coded× coded_bool (coded× (coded_list row_code) (coded× coded_ℕ (coded× (coded_list row_code) coded_ℕ))))
    (λ c. (c.begins, (c.before, (c.next_before, (c.after, c.next_after)))))
    (λ p. record { begins = p.0; before = p.1.0; next_before = p.1.1.0; after = p.1.1.1.0; next_after = p.1.1.1.1 })
    (λ _. refl)

abbrev pub history_code : Coded HistoryOf
history_code =
    code_by
    (ℕ × (ℕ × (List Change × (ℕ × Option ℕ))))
    (coded× coded_ℕ (coded× coded_ℕ (coded× (coded_list change_code) (coded× coded_ℕ (coded_option coded_ℕ)))))
    (λ h. (h.labels, (h.width, (h.changes, (h.made, h.group)))))
    (λ p. record { labels = p.0; width = p.1.0; changes = p.1.1.0; made = p.1.1.1.0; group = p.1.1.1.1 })
    (λ _. refl)
