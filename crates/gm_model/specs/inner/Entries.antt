-- How a script keeps its statements: an entry for each, which says where its hooks and values stand among those of all.
use Rattle.std.specs.Prelude.{◌≡◌, ℕ, ◌≤◌, List, ◌++◌, length, map, slice_range}
use Rattle.std.specs.List.{AllByRecursion}
use Rattle.gm_model.specs.declared.script.Entry.{Entry}
use Rattle.gm_model.specs.declared.script.Part.{Part}
use Rattle.gm_model.specs.declared.script.What.{What}
use Rattle.gm_model.specs.declared.script.What.TheVariants as whats
use Rattle.gm_model.specs.declared.value.Value.{Value}
use Rattle.gm_model.specs.declared.word.Mask.{Mask}
use Rattle.gm_model.specs.Statements.{Stat, Apply, Undo, Redo, Group, End, Each}

abbrev pub items_at : {A : Type 0} → List A → Part → List A
items_at pool part = slice_range pool part.start part.end

abbrev pub stat_with : What → Mask → ℕ → List ℕ → List Value → Stat
stat_with whats.Apply mask rule hooks params = Apply (record { rule = rule; hooks = hooks; params = params })
stat_with whats.Undo mask rule hooks params = Undo
stat_with whats.Redo mask rule hooks params = Redo
stat_with whats.Group mask rule hooks params = Group
stat_with whats.End mask rule hooks params = End
stat_with whats.Each mask rule hooks params = Each mask rule params

abbrev pub stat_at : List ℕ → List Value → Entry → Stat
stat_at hooks params entry = stat_with entry.what entry.mask entry.rule (items_at hooks entry.hooks) (items_at params entry.params)

-- the entry of a statement that speaks of nothing else
abbrev pub alone : What → Entry
alone what = record { what = what; mask = record { bits = 0 }; rule = 0; hooks = record { start = 0; end = 0 }; params = record { start = 0; end = 0 } }

abbrev pub stats_of : List ℕ → List Value → List Entry → List Stat
stats_of hooks params entries = map (stat_at hooks params) entries

-- ---- each part lies among the items

pub record IsPartOf (count : ℕ) (part : Part) : Type 0 where
  pub order : part.start ≤ part.end
  pub within : part.end ≤ count

pub record IsEntryOf (hook_count param_count : ℕ) (entry : Entry) : Type 0 where
  pub hooks : IsPartOf hook_count entry.hooks
  pub params : IsPartOf param_count entry.params

abbrev pub AreEntriesOf : List ℕ → List Value → List Entry → Type 0
AreEntriesOf hooks params entries = AllByRecursion (IsEntryOf (length hooks) (length params)) entries

-- the earlier items stay where they are
abbrev pub Grows : {A : Type 0} → List A → List A → Type 0
Grows old new = (more : List _) × (new ≡ old ++ more)
