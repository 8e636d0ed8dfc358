-- What holds of the darts that a text lists, by its grammar and its limits alone.
use Rattle.std.proofs.Common.{◌<◌, ◌≤◌, List, length}
use Rattle.std.specs.List.{AllByRecursion}
use Rattle.gm_model.specs.declared.schema.Schema.{Schema}
use Rattle.gm_model.specs.Limits.{most_darts, most_names}
use Rattle.gm_model.specs.Maps.{IsSchema}
use Rattle.gm_text.specs.inner.SchemaPrinting.{AreParts}
use Rattle.gm_arena.specs.inner.Lawful.{AreGoodValues}
use Rattle.gm_mapfile.specs.MapText.{Version, First, Second, DartRow}
use Rattle.gm_mapfile.specs.MapReading.{IsWhole}

-- a dart's name and its neighbours pass no limit
abbrev pub IsSmall : DartRow → Type 0
IsSmall dart = (dart.name < most_names) × AllByRecursion (λ a. a < most_names) dart.alphas

abbrev pub IsStatedSmall : Version → Type 0
IsStatedSmall First = Unit {0}
IsStatedSmall (Second next) = next ≤ most_names

pub record IsGoodListing (version : Version) (schema : Schema) (darts : List DartRow) : Type 0 where
  pub declared : IsSchema schema
  pub parts : AreParts schema.embeds
  pub dim : (0 < schema.dim) × (schema.dim ≤ 7)
  pub whole : AllByRecursion (IsWhole schema) darts
  pub values : AllByRecursion (λ (dart : DartRow). AreGoodValues schema dart.values) darts
  pub small : AllByRecursion IsSmall darts
  pub few : length darts ≤ most_darts
  pub next : IsStatedSmall version
