-- What every arena keeps: its darts have live neighbours, names and slots agree, and its numbers stay within the limits.
use Rattle.std.specs.Prelude.{◌≡◌, ℕ, ◌+◌, ◌<◌, ◌≤◌, List, map, length, Some, All}
use Rattle.std.specs.FinMap.{get, len}
use Rattle.gm_model.specs.declared.schema.Schema.{Schema}
use Rattle.gm_model.specs.declared.schema.Embed.{Embed}
use Rattle.gm_model.specs.declared.value.Value.{Value}
use Rattle.gm_model.specs.Limits.{most_darts, most_names}
use Rattle.gm_model.specs.Maps.{IsSchema}
use Rattle.gm_model.specs.Values.{kind_of, IsInValueRange}
use Rattle.gm_arena.specs.inner.ArenaMap.{ArenaMap, Dart, IsAt, IsLiveName}

-- one value for each embedding, of its kind, with numbers in the kind's range
pub record AreGoodValues (schema : Schema) (values : List Value) : Type 0 where
  pub kinds : map kind_of values ≡ map (λ (e : Embed). e.kind) schema.embeds
  pub ranges : All IsInValueRange values

pub record IsLawfulDart (m : ArenaMap) (name : ℕ) (dart : Dart) : Type 0 where
  -- a neighbour for each label
  pub whole : length dart.alphas ≡ m.schema.dim + 1
  -- each of them live
  pub neighbours : All (IsLiveName m) dart.alphas
  pub valued : AreGoodValues m.schema dart.values
  pub below_next : name < m.next
  pub below_reserved : name < m.reserved
  -- the dart is at one slot
  pub slot : ℕ
  pub at : IsAt m slot name

pub record IsLawful (m : ArenaMap) : Type 0 where
  pub dart : (name : ℕ) (dart : Dart) → get m.darts name ≡ Some dart → IsLawfulDart m name dart
  -- what stands at a slot is live, and stands at no other slot
  pub live : (slot name : ℕ) → IsAt m slot name → IsLiveName m name
  pub one_slot : (slot other name : ℕ) → IsAt m slot name → IsAt m other name → other ≡ slot
  pub below_bound : (slot name : ℕ) → IsAt m slot name → slot < m.bound
  pub counted : m.count ≡ len m.darts
  pub few_darts : m.count + m.spare ≤ most_darts
  pub few_names : m.next ≤ most_names
  pub few_reserved : m.reserved ≤ most_names
  pub dim : (0 < m.schema.dim) × (m.schema.dim ≤ 7)
  pub schema : IsSchema m.schema
