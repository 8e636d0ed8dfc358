-- How an arena keeps its map: names in a slab with their neighbours and values beside them, and a table from names to slots. No public clause cites this module.
use Rattle.std.specs.Prelude.{◌≡◌, ◌≢◌, ℕ, zero, suc, ◌+◌, ◌*◌, ◌<◌, ◌≤◌, List, [], ◌∷◌, ◌++◌, map, length, take, drop, ◌==◌, if◌then◌else◌, Bool, IsTrue, Option, Some, None, IsSome, All, slice_index_or, slice_set}
use Rattle.std.specs.Option.{option_map, option_map_or}
use Rattle.std.specs.Ordering.{nat_cmp}
use Rattle.std.specs.FinMap.{FinMap, len}
use Rattle.slab.specs.Slab.{Slab, get, slab_len, entries, entries_from, HasRoomFor}
use Rattle.gm_model.specs.declared.schema.Schema.{Schema}
use Rattle.gm_model.specs.declared.value.Value.{Value}
use Rattle.gm_arena.specs.declared.slot.Slot.{Slot}
use Rattle.gm_arena.specs.declared.arena.Place.{Place}
use Rattle.gm_arena.specs.inner.ArenaMap.{ArenaMap, Dart}
use Rattle.gm_arena.specs.inner.Filled.{filled}
use Rattle.gm_arena.specs.inner.Parts.{part_of}
use Rattle.gm_model.specs.Limits.{most_darts, most_names}
use Rattle.gm_model.specs.Maps.{IsSchema}
use Rattle.gm_arena.specs.inner.Lawful.{AreGoodValues}

-- what the table has where no live dart has a name
abbrev pub no_slot : ℕ
no_slot = 4294967295

-- the slot of a name
abbrev pub slot_in : List ℕ → ℕ → ℕ
slot_in table name = slice_index_or table name no_slot

abbrev pub entry_of : ℕ → Option ℕ
entry_of slot = if slot == no_slot then None else Some slot

-- the names that have a slot, ascending
abbrev pub names_in : List ℕ → List ℕ
names_in table = map (λ e. e.0) (entries_from 0 (map entry_of table))

abbrev pub name_in : Slab Place → ℕ → ℕ
name_in places slot = option_map_or (λ (p : Place). p.name) (get places slot) 0

-- the names of all places, in the order of their slots
abbrev pub place_names : Slab Place → List ℕ
place_names places = map (λ e. e.1.name) (entries places)

-- a list with these from an index on, over what it had there
abbrev pub written_at : {A : Type 0} → ℕ → List A → List A → List A
written_at at own items = take at items ++ (own ++ drop (length own) (drop at items))

-- the slot has these, and each other slot what it had
pub record IsWritten {A : Type 0} (width slot : ℕ) (items own items' : List A) : Type 0 where
  pub here : part_of width items' slot ≡ own
  pub others : (other : ℕ) → other ≢ slot → other * width + width ≤ length items → part_of width items' other ≡ part_of width items other
  pub long : length items ≤ length items'

-- the neighbours with the second of each two slots as that of the first
abbrev pub linked : ℕ → ℕ → List (Slot × Slot) → List Slot → List Slot
linked labels label [] neighbours = neighbours
linked labels label (two ∷ more) neighbours = linked labels label more (slice_set neighbours (two.0.at * labels + label) two.1)

-- the slot of this number
abbrev pub slot_numbered : ℕ → Slot
slot_numbered at = record { at = at }

-- the neighbours of this many lines one after another, as slots: a line has the number of a dart and then those of its neighbours
abbrev pub links_in : ℕ → ℕ → List ℕ → List Slot
links_in labels zero lines = []
links_in labels (suc count) lines = map slot_numbered (drop 1 (take (labels + 1) lines)) ++ links_in labels count (drop (labels + 1) lines)

abbrev pub dart_in : ℕ → ℕ → Slab Place → List Slot → List Value → ℕ → Dart
dart_in labels width places neighbours values slot = record {
  alphas = map (λ (s : Slot). name_in places s.at) (part_of labels neighbours slot);
  values = part_of width values slot;
}

abbrev pub darts_in : ℕ → ℕ → Slab Place → List Slot → List Value → List ℕ → FinMap nat_cmp Dart
darts_in labels width places neighbours values table = filled (map (λ slot. option_map (λ (p : Place). dart_in labels width places neighbours values slot) (get places slot)) table)

abbrev pub slots_in : Slab Place → FinMap nat_cmp ℕ
slots_in places = filled (map (option_map (λ (p : Place). p.name)) places.slots)

abbrev pub map_of : Schema → ℕ → ℕ → Slab Place → List Slot → List Value → List ℕ → ℕ → ℕ → ℕ → ArenaMap
map_of schema labels width places neighbours values table next spare bound = record {
  schema = schema;
  darts = darts_in labels width places neighbours values table;
  slots = slots_in places;
  count = slab_len places;
  next = next;
  spare = spare;
  reserved = length table;
  bound = bound;
}

-- a place is found by its name, and its neighbours are live
pub record IsPlaced (labels : ℕ) (places : Slab Place) (neighbours : List Slot) (table : List ℕ) (next bound slot : ℕ) (place : Place) : Type 0 where
  pub found : slot_in table place.name ≡ slot
  pub live : All (λ (s : Slot). IsSome (get places s.at)) (part_of labels neighbours slot)
  pub below_next : place.name < next
  pub below_bound : slot < bound
  pub below_capacity : slot < places.capacity

-- the numbers of labels and embeddings are those of the schema
pub record IsSized (schema : Schema) (labels width : ℕ) : Type 0 where
  pub lawful : IsSchema schema
  pub one_each : labels ≡ schema.dim + 1
  pub several : 1 < labels
  pub few : labels ≤ 8
  pub wide : width ≡ length schema.embeds

pub record FitTogether (schema : Schema) (labels width : ℕ) (places : Slab Place) (neighbours : List Slot) (values : List Value) (table : List ℕ) (next spare bound : ℕ) : Type 0 where
  pub sized : IsSized schema labels width
  pub placed : (slot : ℕ) (place : Place) → get places slot ≡ Some place → IsPlaced labels places neighbours table next bound slot place
  -- a slot in the table holds a place of this name
  pub named : (name : ℕ) → slot_in table name ≢ no_slot → (place : Place) × (get places (slot_in table name) ≡ Some place) × (place.name ≡ name)
  pub valued : (slot : ℕ) → IsSome (get places slot) → AreGoodValues schema (part_of width values slot)
  -- each key fits the table
  pub fits : places.capacity ≤ no_slot
  -- each slot that was ever in use has its neighbours and values
  pub linked : bound * labels ≤ length neighbours
  pub long : bound * width ≤ length values
  pub room : HasRoomFor places spare
  pub counted : slab_len places ≡ len (darts_in labels width places neighbours values table)
  pub few_darts : slab_len places + spare ≤ most_darts
  pub few_names : next ≤ most_names
  pub few_reserved : length table ≤ most_names

-- without memory each key can get its neighbours and values
pub record HasParts (capacity labels width links values : ℕ) : Type 0 where
  pub linked : capacity * labels ≤ links
  pub long : capacity * width ≤ values

-- the places of the names below this one, each at the slot of its own number
pub record AreNumbered (count : ℕ) (places : Slab Place) : Type 0 where
  pub here : (slot : ℕ) → slot < count → get places slot ≡ Some (record { name = slot })
  pub none : (slot : ℕ) → count ≤ slot → get places slot ≡ None

-- where the flag is set, the name of each place is its slot
abbrev pub AreNamesSlots : Bool → Slab Place → Type 0
AreNamesSlots flag places = IsTrue flag → (slot : ℕ) (place : Place) → get places slot ≡ Some place → place.name ≡ slot
