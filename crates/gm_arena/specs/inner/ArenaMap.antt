-- What contracts see of an arena: a map whose darts go by name, the name that each slot stands for, and the room that is reserved.
use Rattle.std.specs.Prelude.{◌≡◌, ℕ, List, Some, IsSome, unwrap_or, slice_index_or, refl}
use Rattle.std.specs.Option.{option_map_or}
use Rattle.std.specs.Ordering.{nat_cmp}
use Rattle.std.specs.FinMap.{FinMap, get}
use Rattle.std.specs.FinMap as map
use Rattle.std.specs.Coded.{Coded, code_by, coded×, coded_ℕ, coded_list}
use Rattle.gm_model.specs.declared.schema.Schema.{Schema}
use Rattle.gm_model.specs.declared.value.Value.{Value}
use Rattle.gm_model.specs.contracts.schema.Schema as schema_block
use Rattle.gm_model.specs.contracts.value.Value as value_block

-- a dart: the names of its neighbours, by label, and its values, by embedding
pub record Dart : Type 0 where
  pub alphas : List ℕ
  pub values : List Value

pub record ArenaMap : Type 0 where
  pub schema : Schema
  -- the live darts, by name
  pub darts : FinMap nat_cmp Dart
  -- the name of the live dart at each slot
  pub slots : FinMap nat_cmp ℕ
  -- how many darts are live
  pub count : ℕ
  pub next : ℕ
  -- how many darts can be added
  pub spare : ℕ
  -- the names below it can be added
  pub reserved : ℕ
  -- each live slot is below it
  pub bound : ℕ

-- a live dart of this name is at the slot
abbrev pub IsAt : ArenaMap → ℕ → ℕ → Type 0
IsAt m slot name = get m.slots slot ≡ Some name

abbrev pub IsLiveSlot : ArenaMap → ℕ → Type 0
IsLiveSlot m slot = IsSome (get m.slots slot)

abbrev pub IsLiveName : ArenaMap → ℕ → Type 0
IsLiveName m name = IsSome (get m.darts name)

-- the name of the dart at a live slot
abbrev pub name_at : ArenaMap → ℕ → ℕ
name_at m slot = unwrap_or (get m.slots slot) 0

-- the neighbour of a live dart along a label; the dart itself where there is none
abbrev pub alpha : ArenaMap → ℕ → ℕ → ℕ
alpha m label name = option_map_or (λ (dart : Dart). slice_index_or dart.alphas label name) (get m.darts name) name

abbrev pub dart_code : Coded Dart
dart_code =
    code_by
    (List ℕ × List Value)
    (coded× (coded_list coded_ℕ) (coded_list value_block.the_row.coded))
    (λ d. (d.alphas, d.values))
    (λ p. record { alphas = p.0; values = p.1 })
    (λ _. refl)

-- the map is stored as the tuple of its fields
abbrev pub arena_code : Coded ArenaMap
arena_code =
    code_by
    (Schema × (FinMap nat_cmp Dart × (FinMap nat_cmp ℕ × (ℕ × (ℕ × (ℕ × (ℕ × ℕ)))))))
    (coded× schema_block.the_row.coded (coded× (map.code coded_ℕ dart_code) (coded× (map.code coded_ℕ coded_ℕ) (coded× coded_ℕ (coded× coded_ℕ (coded× coded_ℕ (coded× coded_ℕ coded_ℕ)))))))
    (λ m. (m.schema, (m.darts, (m.slots, (m.count, (m.next, (m.spare, (m.reserved, m.bound))))))))
    (λ p. record { schema = p.0; darts = p.1.0; slots = p.1.1.0; count = p.1.1.1.0; next = p.1.1.1.1.0; spare = p.1.1.1.1.1.0; reserved = p.1.1.1.1.1.1.0; bound = p.1.1.1.1.1.1.1 })
    (λ _. refl)
