-- That an expression of a rule has a value of its kind where it is read, or none, and that reading it takes one number of units.
use Rattle.std.specs.Prelude.{◌≡◌, ℕ, ◌≤◌, ◌⊎◌, IsTrue}
use Rattle.gm_model.specs.declared.rule.Side.TheVariants.{Left}
use Rattle.gm_model.specs.declared.value.Kind.{Kind}
use Rattle.gm_model.specs.declared.value.Value.{Value}
use Rattle.gm_model.specs.Expressions.{Reading, HasValue, HasNoValue, HasUnits}
use Rattle.gm_model.specs.Kinds.{HasKind, AreGoodParams}
use Rattle.gm_model.specs.Maps.{Map, IsDart, IsMap, dimension}
use Rattle.gm_model.specs.Rules.{Rule, has_word}
use Rattle.gm_model.specs.Trees.{Tree}
use Rattle.gm_model.specs.Values.{IsValueOf}

-- each neighbour is a dart
abbrev pub HasLiveNeighbours : Map → Type 0
HasLiveNeighbours map = (d i : ℕ) → IsDart map d → i ≤ dimension map → IsDart map (map.alpha i d)

-- Expressions of the rule are read in a map whose neighbours are darts, where each left node has a live dart. Each
-- position of a match in a generalised map is such a place.
pub record IsReadingOf (rule : Rule) (reading : Reading) : Type 0 where
  pub is_map : IsMap reading.map
  pub stays : HasLiveNeighbours reading.map
  pub darts : (x : ℕ) → IsTrue (has_word rule Left x) → IsDart reading.map (reading.place.dart_of x reading.position)

-- The value of a typed expression is one of its kind, where each parameter has a value of its own kind.
abbrev pub ValuesHaveTheirKinds : Type 0
ValuesHaveTheirKinds = (rule : Rule) (reading : Reading) (tree : Tree) (kind : Kind) (v : Value) → IsReadingOf rule reading → AreGoodParams rule reading.params → HasKind reading.map.schema rule tree kind → HasValue reading tree v → IsValueOf kind v

-- what reading gives and takes
pub record IsDetermined (reading : Reading) (tree : Tree) : Type 0 where
  -- there is a value, or none
  pub has_value_or_none : ((v : Value) × HasValue reading tree v) ⊎ HasNoValue reading tree
  -- and only one
  pub one_value : (v w : Value) → HasValue reading tree v → HasValue reading tree w → v ≡ w
  -- there is a number of units
  pub has_units : (u : ℕ) × HasUnits reading tree u
  -- and only one
  pub one_number : (u u' : ℕ) → HasUnits reading tree u → HasUnits reading tree u' → u ≡ u'

-- For every typed expression, where each parameter has a value of its kind.
abbrev pub ReadingsAreDetermined : Type 0
ReadingsAreDetermined = (rule : Rule) (reading : Reading) (tree : Tree) (kind : Kind) → IsReadingOf rule reading → AreGoodParams rule reading.params → HasKind reading.map.schema rule tree kind → IsDetermined reading tree
