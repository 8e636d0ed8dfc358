-- How far an arena has the darts of a text: which of them, and with which of their neighbours.
use Rattle.std.specs.Prelude.{◌≡◌, ◌≢◌, ℕ, ◌+◌, ◌*◌, ◌/◌, ◌<◌, ◌≤◌, List, length, All, Option, Some, None, is_some, MatchOption, slice_index}
use Rattle.std.specs.FinMap.{get}
use Rattle.std.specs.List.{AllByRecursion}
use Rattle.std.specs.Option.{option_map}
use Rattle.gm_model.specs.declared.schema.Schema.{Schema}
use Rattle.gm_model.specs.declared.value.Value.{Value}
use Rattle.gm_model.specs.GMap.{Row, row_of, IsLive}
use Rattle.gm_model.specs.GMap as written
use Rattle.gm_model.specs.Limits.{most_darts, most_names}
use Rattle.gm_model.specs.Orbits.{IsPairBefore}
use Rattle.gm_arena.specs.inner.ArenaMap.{ArenaMap, Dart, IsAt, IsLiveName, alpha}
use Rattle.gm_arena.specs.inner.Lawful.{AreGoodValues}
use Rattle.gm_mapfile.specs.MapText.{Version, First, Second, DartRow, IsNext, names, rows_of, dart_of}
use Rattle.gm_mapfile.specs.MapFaults.{AreNamedOnce, IsLeastTwice, IsLeastNotBelow, AreBelow, HaveTargets}
use Rattle.gm_mapfile.specs.inner.Rows.{darts_in}

-- numbers and values that fit an arena over the schema: no more lines than a map has darts, each number a name, and each line's values good
pub record AreInRoom (schema : Schema) (numbers : List ℕ) (values : List Value) : Type 0 where
  pub few : length numbers / (schema.dim + 2) ≤ most_darts
  pub small : All (λ x. x < most_names) numbers
  pub long : length values ≡ length numbers / (schema.dim + 2) * length schema.embeds
  pub good : AllByRecursion (λ (dart : DartRow). AreGoodValues schema dart.values) (darts_in schema numbers values)

-- each dart has one neighbour for each label from 0 to n
abbrev pub AreWhole : ℕ → ArenaMap → Type 0
AreWhole n m = (d : ℕ) (dart : Dart) → get m.darts d ≡ Some dart → length dart.alphas ≡ n + 1

-- what stands at a slot is a dart
abbrev pub AreSlotsLive : ArenaMap → Type 0
AreSlotsLive m = (slot name : ℕ) → IsAt m slot name → IsLiveName m name

-- no dart is in it yet
pub record IsFresh (m : ArenaMap) : Type 0 where
  pub none : (d : ℕ) → get m.darts d ≡ None
  pub no_slots : (slot : ℕ) → get m.slots slot ≡ None
  pub count : m.count ≡ 0
  pub next : m.next ≡ 0

-- the values of a dart, where there is one
abbrev pub values_at : ArenaMap → ℕ → Option (List Value)
values_at m d = option_map (λ (dart : Dart). dart.values) (get m.darts d)

-- each dart has the values of its line
abbrev pub AreValued : List DartRow → ArenaMap → Type 0
AreValued darts m = (d : ℕ) → values_at m d ≡ option_map (λ (dart : DartRow). dart.values) (dart_of darts d)

-- the next name is the least number above every name
pub record IsNextLeast (m : ArenaMap) : Type 0 where
  pub above : (name : ℕ) → IsLiveName m name → name < m.next
  pub least : (bound : ℕ) → ((name : ℕ) → IsLiveName m name → name < bound) → m.next ≤ bound

-- ---- darts without neighbours

-- no name is had twice, or this is the least of those
abbrev pub IsTwice : ArenaMap → List Row → Option ℕ → Type 0
IsTwice m rows twice = MatchOption twice (AreNamedOnce rows × (m.count ≡ length rows)) (IsLeastTwice rows)

-- the arena has a dart of each name of the rows, and no other
abbrev pub AreLive : List Row → ArenaMap → Type 0
AreLive rows m = (d : ℕ) → is_some (get m.darts d) ≡ is_some (row_of rows d)

pub record AreAdded (n : ℕ) (rows : List Row) (m : ArenaMap) (found : Option ℕ) : Type 0 where
  pub live : AreLive rows m
  pub slots : AreSlotsLive m
  pub whole : AreWhole n m
  pub twice : IsTwice m rows found

-- ---- the next name

-- each name is below the number, or this is the least that isn't
abbrev pub IsNotBelow : List Row → ℕ → Option ℕ → Type 0
IsNotBelow rows next found = MatchOption found (AreBelow rows next) (IsLeastNotBelow rows next)

-- this is the least name that isn't below the next one that the text states
abbrev pub IsLeastNotBelowStated : Version → List Row → ℕ → Type 0
IsLeastNotBelowStated First rows d = ⊥
IsLeastNotBelowStated (Second next) rows d = IsLeastNotBelow rows next d

-- the next name is the stated one, or as before where none is stated
abbrev pub IsNextSet : Version → ArenaMap → ArenaMap → Type 0
IsNextSet First old new = new ≡ old
IsNextSet (Second next) old new = new ≡ record old { next = next }

-- ---- neighbours

-- only neighbours were changed
pub record IsRelinked (n : ℕ) (old new : ArenaMap) : Type 0 where
  pub frame : new ≡ record old { darts = new.darts }
  pub live : (d : ℕ) → is_some (get new.darts d) ≡ is_some (get old.darts d)
  pub values : (d : ℕ) → values_at new d ≡ values_at old d
  pub whole : AreWhole n new

-- the neighbours of one dart along the labels below this one are these, and all darts
pub record IsDartLinked (n : ℕ) (old new : ArenaMap) (name : ℕ) (neighbours : List ℕ) (label : ℕ) : Type 0 where
  pub relinked : IsRelinked n old new
  pub others : (d i : ℕ) → d ≢ name → alpha new i d ≡ alpha old i d
  pub linked : (i : ℕ) → i < label → alpha new i name ≡ slice_index neighbours i
  pub targets : (i : ℕ) → i < label → IsLiveName old (slice_index neighbours i)

-- the neighbour along this label is no dart
pub record IsLabelWithoutTarget (n : ℕ) (old : ArenaMap) (neighbours : List ℕ) (label : ℕ) : Type 0 where
  pub within : label ≤ n
  pub fails : IsLiveName old (slice_index neighbours label) → ⊥
  pub before : (i : ℕ) → i < label → IsLiveName old (slice_index neighbours i)

-- each neighbour in the rows is a dart of the old arena, and the neighbour in the new one
abbrev pub AreLinked : ℕ → ArenaMap → ArenaMap → List Row → Type 0
AreLinked n old new rows = (d i : ℕ) → IsLive rows d → i ≤ n → (alpha new i d ≡ written.alpha rows i d) × IsLiveName old (written.alpha rows i d)

-- the first neighbour in the rows that is none
pub record IsFirstLack (n : ℕ) (old : ArenaMap) (rows : List Row) (d i : ℕ) : Type 0 where
  pub live : IsLive rows d
  pub label : i ≤ n
  pub fails : IsLiveName old (written.alpha rows i d) → ⊥
  pub before : (e j : ℕ) → IsPairBefore e j d i → IsLive rows e → j ≤ n → IsLiveName old (written.alpha rows j e)

abbrev pub AreLinkedUnless : ℕ → ArenaMap → ArenaMap → List Row → Option (ℕ × ℕ) → Type 0
AreLinkedUnless n old new rows missing = MatchOption missing (AreLinked n old new rows) (λ p. IsFirstLack n old rows p.0 p.1)

-- ---- the whole

-- the arena has the darts
pub record IsHeld (version : Version) (schema : Schema) (darts : List DartRow) (m : ArenaMap) : Type 0 where
  pub schema_is : m.schema ≡ schema
  pub count : m.count ≡ length darts
  pub next : IsNext version (names darts) m.next
  pub whole : AreWhole schema.dim m
  pub live : AreLive (rows_of darts) m
  pub alphas : (d i : ℕ) → i ≤ schema.dim → alpha m i d ≡ written.alpha (rows_of darts) i d
  pub values : AreValued darts m
  pub distinct : AreNamedOnce (rows_of darts)
  pub targets : HaveTargets schema.dim (rows_of darts)
