-- At given hook darts a rule has one match at most.
use Rattle.std.specs.Prelude.{◌≡◌, ℕ, ◌<◌, List}
use Rattle.gm_model.specs.Maps.{Map}
use Rattle.gm_model.specs.Matches.{Placement, IsInstance, IsMatch}
use Rattle.gm_model.specs.Rules.{Rule, width}
use Rattle.gm_model.specs.Structure.{IsInRange, HasIncidence}

-- the positions turn to the same positions
abbrev pub HaveSameTurns : Rule → Placement → Placement → Type 0
HaveSameTurns rule place other = (p m : ℕ) → p < place.positions → m < width rule → (place.turn p m ≡ other.turn p m) × (place.turn p m < place.positions)

-- both have the same positions and turns, and the same darts
pub record IsLike (rule : Rule) (place other : Placement) : Type 0 where
  pub positions : place.positions ≡ other.positions
  pub turns : HaveSameTurns rule place other
  pub darts : (x p : ℕ) → IsInstance rule place x p → place.dart_of x p ≡ other.dart_of x p

abbrev pub OneMatchAtMost : Type 0
OneMatchAtMost = (map : Map) (rule : Rule) (hooks : List ℕ) (place other : Placement) → IsInRange map.schema rule → HasIncidence map.schema.dim rule → IsMatch map rule hooks place → IsMatch map rule hooks other → IsLike rule place other
