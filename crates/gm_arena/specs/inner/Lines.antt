-- What an arena holds that was made of lines: each has the name of a dart, and then those of its neighbours by label.
use Rattle.std.specs.Prelude.{◌≡◌, ℕ, ◌+◌, ◌*◌, ◌/◌, ◌<◌, ◌≤◌, List, length, drop, get_or, All, Some, None}
use Rattle.std.specs.FinMap.{get}
use Rattle.gm_model.specs.declared.schema.Schema.{Schema}
use Rattle.gm_model.specs.declared.value.Value.{Value}
use Rattle.gm_model.specs.Limits.{most_darts}
use Rattle.gm_arena.specs.inner.ArenaMap.{ArenaMap, IsAt}
use Rattle.gm_arena.specs.inner.Lawful.{AreGoodValues}
use Rattle.gm_arena.specs.inner.Parts.{part_of}

-- how many whole lines there are
abbrev pub line_count : Schema → List ℕ → ℕ
line_count schema lines = length lines / (schema.dim + 2)

-- the neighbours of a dart, after its name in the line of this number
abbrev pub neighbours_on : Schema → List ℕ → ℕ → List ℕ
neighbours_on schema lines at = drop 1 (part_of (schema.dim + 2) lines at)

-- the values of a dart, in the part of this number
abbrev pub values_on : Schema → List Value → ℕ → List Value
values_on schema values at = part_of (length schema.embeds) values at

-- the lines of the darts 0, 1 and so on, in this order, with good values for each
pub record AreLines (schema : Schema) (lines : List ℕ) (values : List Value) : Type 0 where
  pub few : line_count schema lines ≤ most_darts
  pub named : (at : ℕ) → at < line_count schema lines → get_or lines (at * (schema.dim + 2)) 0 ≡ at
  pub within : All (λ name. name < line_count schema lines) lines
  pub long : length values ≡ line_count schema lines * length schema.embeds
  pub good : (at : ℕ) → at < line_count schema lines → AreGoodValues schema (values_on schema values at)

-- the darts 0, 1 and so on, one for each line, at the slots of their own numbers, with the neighbours and the values of their lines
pub record HoldsLines (schema : Schema) (lines : List ℕ) (values : List Value) (m : ArenaMap) : Type 0 where
  pub schema_is : m.schema ≡ schema
  pub count : m.count ≡ line_count schema lines
  pub next : m.next ≡ line_count schema lines
  pub bound : m.bound ≡ line_count schema lines
  pub reserved : m.reserved ≡ line_count schema lines
  pub spare : m.spare ≡ 0
  pub slots : (at : ℕ) → at < line_count schema lines → IsAt m at at
  pub free : (at : ℕ) → line_count schema lines ≤ at → get m.slots at ≡ None
  pub darts : (name : ℕ) → name < line_count schema lines → get m.darts name ≡ Some (record { alphas = neighbours_on schema lines name; values = values_on schema values name })
  pub none : (name : ℕ) → line_count schema lines ≤ name → get m.darts name ≡ None
