-- What a printed map is read as: its next name, and what a map owes so that its canonical text stands for it.
use Rattle.std.specs.Prelude.{◌≡◌, ℕ, ◌<◌, ◌≤◌, suc, List, [], ◌∷◌, length}
use Rattle.std.specs.List.{AllByRecursion}
use Rattle.std.specs.List.Sorted.{IsStrictlyIncreasing}
use Rattle.gm_model.specs.Limits.{most_darts, most_names}
use Rattle.gm_model.specs.Maps.{IsSchema, IsSound}
use Rattle.gm_text.specs.inner.SchemaPrinting.{AreParts}
use Rattle.gm_arena.specs.inner.Lawful.{AreGoodValues}
use Rattle.gm_mapfile.specs.MapText.{DartRow, ListedMap, map_of, names}
use Rattle.gm_mapfile.specs.declared.version.MapVersion.{MapVersion}
use Rattle.gm_mapfile.specs.declared.version.MapVersion.TheVariants as versions

-- one more than the last name, and 0 without darts
abbrev pub behind_last : List ℕ → ℕ
behind_last [] = 0
behind_last (name ∷ []) = suc name
behind_last (name ∷ next ∷ names) = behind_last (next ∷ names)

-- the map as its text in the version tells it: the first one tells the next name by the greatest
abbrev pub renumbered : MapVersion → ListedMap → ListedMap
renumbered versions.One map = record map { next = behind_last (names map.darts) }
renumbered versions.Two map = map

-- a dart with names below the limit, n + 1 neighbours, and good values
pub record IsPrintableDart (map : ListedMap) (dart : DartRow) : Type 0 where
  pub name_small : dart.name < most_names
  pub alphas_small : AllByRecursion (λ a. a < most_names) dart.alphas
  pub long : length dart.alphas ≡ suc map.schema.dim
  pub values : AreGoodValues map.schema dart.values

-- a map with its darts in ascending order of their names, within the limits, and sound
pub record IsPrintable (map : ListedMap) : Type 0 where
  pub schema : IsSchema map.schema
  pub parts : AreParts map.schema.embeds
  pub dim : (0 < map.schema.dim) × (map.schema.dim ≤ 7)
  pub few : length map.darts ≤ most_darts
  pub darts : AllByRecursion (IsPrintableDart map) map.darts
  pub ascending : IsStrictlyIncreasing (names map.darts)
  pub next : map.next ≤ most_names
  pub sound : IsSound (map_of map)
