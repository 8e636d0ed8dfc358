-- What the calls that change an arena make of it.
use Rattle.std.specs.Prelude.{◌≢◌, ℕ, ◌+◌, ◌-◌, ◌≤◌, max, List, [], ◌∷◌, Option, Some, None, replicate, slice_set}
use Rattle.std.specs.Option.{option_map}
use Rattle.std.specs.Ordering.{nat_cmp}
use Rattle.std.specs.FinMap.{FinMap, get, empty, insert, remove}
use Rattle.gm_model.specs.declared.schema.Schema.{Schema}
use Rattle.gm_model.specs.declared.value.Value.{Value}
use Rattle.gm_arena.specs.declared.slot.Slot.{Slot}
use Rattle.gm_arena.specs.inner.ArenaMap.{ArenaMap, Dart, IsLiveName, name_at, alpha}

-- no darts, and no room
abbrev pub empty_map : Schema → ArenaMap
empty_map schema = record {
  schema = schema;
  darts = empty;
  slots = empty;
  count = 0;
  next = 0;
  spare = 0;
  reserved = 0;
  bound = 0;
}

-- a dart that is free for every label: each neighbour is the dart itself
abbrev pub free_dart : ℕ → ℕ → List Value → Dart
free_dart n name values = record { alphas = replicate (n + 1) name; values = values }

-- with one more dart, free for every label, at a slot
abbrev pub with_dart : ArenaMap → ℕ → ℕ → List Value → ArenaMap
with_dart m slot name values = record m {
  darts = insert m.darts name (free_dart m.schema.dim name values);
  slots = insert m.slots slot name;
  count = m.count + 1;
  next = max m.next (name + 1);
  spare = m.spare - 1;
  bound = max m.bound (slot + 1);
}

-- the dart with another neighbour along this label
abbrev pub turned : Dart → ℕ → ℕ → Dart
turned dart label to = record { alphas = slice_set dart.alphas label to; values = dart.values }

abbrev pub put_if : FinMap nat_cmp Dart → ℕ → Option Dart → FinMap nat_cmp Dart
put_if darts name None = darts
put_if darts name (Some dart) = insert darts name dart

-- with this one neighbour
abbrev pub with_alpha : ArenaMap → ℕ → ℕ → ℕ → ArenaMap
with_alpha m name label to = record m {
  darts = put_if m.darts name (option_map (λ dart. turned dart label to) (get m.darts name));
}

-- the dart with these neighbours, by label
abbrev pub relinked : Dart → List ℕ → Dart
relinked dart neighbours = record { alphas = neighbours; values = dart.values }

-- with the second of each two slots as the neighbour of the first, a later one in the place of an earlier one
abbrev pub with_alphas : ArenaMap → ℕ → List (Slot × Slot) → ArenaMap
with_alphas m label [] = m
with_alphas m label (two ∷ more) = with_alphas (with_alpha m (name_at m two.0.at) label (name_at m two.1.at)) label more

-- the dart with another value of this embedding
abbrev pub revalued : Dart → ℕ → Value → Dart
revalued dart e v = record { alphas = dart.alphas; values = slice_set dart.values e v }

-- with this one value
abbrev pub with_value : ArenaMap → ℕ → ℕ → Value → ArenaMap
with_value m name e v = record m {
  darts = put_if m.darts name (option_map (λ dart. revalued dart e v) (get m.darts name));
}

-- no other dart has the dart as a neighbour
abbrev pub IsAlone : ArenaMap → ℕ → Type 0
IsAlone m name = (other label : ℕ) → IsLiveName m other → other ≢ name → label ≤ m.schema.dim → alpha m label other ≢ name

-- without the dart, whose room can be used again
abbrev pub without_dart : ArenaMap → ℕ → ℕ → ArenaMap
without_dart m slot name = record m {
  darts = remove m.darts name;
  slots = remove m.slots slot;
  count = m.count - 1;
  spare = m.spare + 1;
}
