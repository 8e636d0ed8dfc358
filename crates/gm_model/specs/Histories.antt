-- What is remembered of a run beside its map: the maps to which undo and redo lead, and the group that is open.
use Rattle.std.specs.Prelude.{◌≡◌, Bool, true, false, if◌then◌else◌, List, [], ◌∷◌, Option, Some, None}
use Rattle.std.specs.Option.{option_map}
use Rattle.gm_model.specs.Maps.{Map}

-- an open group of applications
pub record Group : Type 0 where
  -- the map where it began
  pub map : Map
  -- whether an application of it was done
  pub is_changed : Bool

pub record History : Type 0 where
  -- the maps to which undo leads, the nearest first
  pub past : List Map
  -- the maps to which redo leads, the nearest first
  pub future : List Map
  pub group : Option Group

-- nothing is remembered yet
abbrev pub no_history : History
no_history = record { past = []; future = []; group = None }

-- ---- applications

-- the past after an application that was done at the map: in a group it stays, since the group is one entry of it
abbrev pub past_behind : Map → Option Group → List Map → List Map
past_behind map None past = map ∷ past
past_behind map (Some group) past = past

abbrev pub changed : Group → Group
changed group = record { map = group.map; is_changed = true }

-- after an application that was done at the map: what was taken back is forgotten
abbrev pub done_at : Map → History → History
done_at map history = record { past = past_behind map history.group history.past; future = []; group = option_map changed history.group }

-- ---- undo and redo, outside groups

-- the map goes to the future, and the nearest of the past comes
pub record IsUndone (map : Map) (history : History) (map' : Map) (history' : History) : Type 0 where
  pub outside : history.group ≡ None
  pub rest : List Map
  pub past : history.past ≡ map' ∷ rest
  pub after : history' ≡ record { past = rest; future = map ∷ history.future; group = None }

-- the map goes to the past, and the nearest of the future comes
pub record IsRedone (map : Map) (history : History) (map' : Map) (history' : History) : Type 0 where
  pub outside : history.group ≡ None
  pub rest : List Map
  pub future : history.future ≡ map' ∷ rest
  pub after : history' ≡ record { past = map ∷ history.past; future = rest; group = None }

-- ---- groups

-- a group begins at the map
abbrev pub begun_at : Map → History → History
begun_at map history = record { past = history.past; future = history.future; group = Some (record { map = map; is_changed = false }) }

-- the group ends, and what was done in it is one entry of the past
abbrev pub kept : Group → History → History
kept group history = record { past = if group.is_changed then group.map ∷ history.past else history.past; future = history.future; group = None }

-- the group ends, and the map where it began comes back
abbrev pub dropped : History → History
dropped history = record { past = history.past; future = history.future; group = None }
