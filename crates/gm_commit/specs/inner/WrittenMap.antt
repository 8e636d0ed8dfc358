-- What the stages of a commit leave of an arena's map. No public clause cites this module.
use Rattle.std.specs.Prelude.{◌≡◌, ℕ, ◌+◌, ◌<◌, ◌≤◌, ◌⊎◌, List, [], ◌∷◌, length, Option, Some, slice_index_or}
use Rattle.std.specs.FinMap.{get}
use Rattle.std.specs.Option.{option_map}
use Rattle.gm_model.specs.declared.schema.Embed.{Embed}
use Rattle.gm_model.specs.declared.value.Value.{Value}
use Rattle.gm_model.specs.Maps.{IsEmbedAt}
use Rattle.gm_model.specs.Values.{IsValueOf}
use Rattle.gm_arena.specs.declared.slot.Slot.{Slot}
use Rattle.gm_arena.specs.inner.ArenaMap.{ArenaMap, Dart, IsAt, IsLiveSlot, IsLiveName, name_at}
use Rattle.gm_arena.specs.inner.Parts.{part_of}
use Rattle.gm_arena.specs.inner.Edits.{IsAlone, with_alpha, with_value, without_dart}
use Rattle.gm_commit.specs.inner.Arcs.{Arc}
use Rattle.gm_commit.specs.inner.Arcs.{End}
use Rattle.gm_commit.specs.inner.Arcs.End.{Old, New}
use Rattle.gm_commit.specs.declared.changes.ValueAt.{ValueAt}

-- each dart has a neighbour for each label
abbrev pub AreWhole : ArenaMap → Type 0
AreWhole m = (name : ℕ) (dart : Dart) → get m.darts name ≡ Some dart → length dart.alphas ≡ m.schema.dim + 1

-- ---- arcs

-- new darts have a slot by their number
abbrev pub HasSlot : List Slot → End → Type 0
HasSlot made (Old slot) = Unit {0}
HasSlot made (New number) = number < length made

abbrev pub slot_of : List Slot → End → Slot
slot_of made (Old slot) = slot
slot_of made (New number) = slice_index_or made number (record { at = 0 })

abbrev pub end_at : ArenaMap → List Slot → End → ℕ
end_at m made end = name_at m (slot_of made end).at

abbrev pub IsLiveEnd : ArenaMap → List Slot → End → Type 0
IsLiveEnd m made end = HasSlot made end × IsLiveSlot m (slot_of made end).at

pub record IsWritable (m : ArenaMap) (made : List Slot) (arc : Arc) : Type 0 where
  pub from : IsLiveEnd m made arc.from
  pub label : arc.label ≤ m.schema.dim
  pub to : IsLiveEnd m made arc.to

-- with these arcs, a later one in the place of an earlier one
abbrev pub with_arcs : (End → ℕ) → ArenaMap → List Arc → ArenaMap
with_arcs name m [] = m
with_arcs name m (arc ∷ arcs) = with_arcs name (with_alpha m (name arc.from) arc.label (name arc.to)) arcs

-- ---- darts fewer

abbrev pub without_slot : ArenaMap → Slot → ArenaMap
without_slot m slot = without_dart m slot.at (name_at m slot.at)

abbrev pub without_darts : ArenaMap → List Slot → ArenaMap
without_darts m [] = m
without_darts m (slot ∷ slots) = without_darts (without_slot m slot) slots

-- each is live at its turn, and no other's neighbour
abbrev pub CanRemove : ArenaMap → List Slot → Type 0
CanRemove m [] = Unit {0}
CanRemove m (slot ∷ slots) = IsLiveSlot m slot.at × IsAlone m (name_at m slot.at) × CanRemove (without_slot m slot) slots

-- ---- darts more

-- the values of a live dart
abbrev pub values_at : ArenaMap → ℕ → Option (List Value)
values_at m d = option_map (λ (dart : Dart). dart.values) (get m.darts d)

-- darts of the names from the next one on were added, at these slots and with these values
pub record IsExtended (old : ArenaMap) (values : List Value) (made : List Slot) (new : ArenaMap) : Type 0 where
  pub schema : new.schema ≡ old.schema
  pub reserved : new.reserved ≡ old.reserved
  pub next : new.next ≡ old.next + length made
  pub count : new.count ≡ old.count + length made
  pub spare : new.spare + length made ≡ old.spare
  pub darts : (d : ℕ) → d < old.next → get new.darts d ≡ get old.darts d
  pub slots : (slot name : ℕ) → IsAt old slot name → IsAt new slot name
  pub made_at : (number : ℕ) → number < length made → IsAt new (slice_index_or made number (record { at = 0 })).at (old.next + number)
  pub made_live : (number : ℕ) → number < length made → IsLiveName new (old.next + number)
  pub valued : (number : ℕ) → number < length made → values_at new (old.next + number) ≡ Some (part_of (length old.schema.embeds) values number)
  pub only : (d : ℕ) → IsLiveName new d → IsLiveName old d ⊎ ((number : ℕ) × (number < length made) × (d ≡ old.next + number))
  pub whole : AreWhole old → AreWhole new

-- ---- values

-- with these values, a later one in the place of an earlier one
abbrev pub with_values : ArenaMap → List ValueAt → ArenaMap
with_values m [] = m
with_values m (at ∷ values) = with_values (with_value m (name_at m at.slot.at) at.embed at.value) values

pub record IsSettable (m : ArenaMap) (at : ValueAt) : Type 0 where
  pub live : IsLiveSlot m at.slot.at
  pub embed : Embed
  pub embed_at : IsEmbedAt m.schema at.embed embed
  pub value : IsValueOf embed.kind at.value
