-- When a map can be oriented: two colours for its darts, and the odd walks that forbid them.
use Rattle.std.specs.Prelude.{◌≡◌, ◌≢◌, ℕ, ◌%◌, ◌<◌, ◌≤◌, ◌↔◌, Bool, true, List, [], ◌∷◌, length, slice_index}
use Rattle.std.specs.List.{Contains}
use Rattle.gm_model.specs.Matches.{IsSmallerPath}
use Rattle.gm_model.specs.Maps.{Map, IsDart, dimension}
use Rattle.gm_model.specs.Orbits.{IsInOrbit, IsLead}
use Rattle.gm_cells.specs.declared.orientation.Orientation.{Orientation}
use Rattle.gm_cells.specs.declared.orientation.Orientation.TheVariants.{Two, Odd}
use Rattle.gm_cells.specs.Cells.{labels_to}

-- ---- colours

-- each neighbour of one of these darts, other than the dart itself, has another colour
abbrev pub IsTwoColouring : ℕ → (ℕ → ℕ → ℕ) → (ℕ → Type 0) → (ℕ → Bool) → Type 0
IsTwoColouring n alpha IsOne colour = (d i : ℕ) → IsOne d → i ≤ n → alpha i d ≢ d → colour (alpha i d) ≢ colour d

-- d is the lead of its component
abbrev pub IsComponentLead : Map → ℕ → Type 0
IsComponentLead map d = IsLead (IsDart map) map.alpha (labels_to (dimension map)) d

-- a dart of d's component
abbrev pub IsJoined : Map → ℕ → ℕ → Type 0
IsJoined map d e = IsInOrbit map.alpha (labels_to (dimension map)) d e

-- the component of d has two colours
abbrev pub HasColoursAt : Map → ℕ → Type 0
HasColoursAt map d = (colour : ℕ → Bool) × IsTwoColouring (dimension map) map.alpha (IsJoined map d) colour

-- these are the darts of the first of two colours, which each component's least dart has
pub record AreOfFirstColour (map : Map) (first : List ℕ) : Type 0 where
  pub colour : ℕ → Bool
  pub two : IsTwoColouring (dimension map) map.alpha (IsDart map) colour
  pub leads : (d : ℕ) → IsComponentLead map d → colour d ≡ true
  pub listed : (d : ℕ) → Contains first d ↔ (IsDart map d × (colour d ≡ true))
  pub ascending : (p q : ℕ) → p < q → q < length first → slice_index first p < slice_index first q

-- ---- walks

-- the labels up to n lead from d to e, and no step stays where it is
abbrev pub LeadsTo : ℕ → (ℕ → ℕ → ℕ) → ℕ → List ℕ → ℕ → Type 0
LeadsTo n alpha e [] d = d ≡ e
LeadsTo n alpha e (i ∷ labels) d = (i ≤ n) × (alpha i d ≢ d) × LeadsTo n alpha e labels (alpha i d)

-- an odd number of labels that lead from d back to d
pub record IsOddWalk (n : ℕ) (alpha : ℕ → ℕ → ℕ) (d : ℕ) (labels : List ℕ) : Type 0 where
  pub odd : length labels % 2 ≡ 1
  pub leads : LeadsTo n alpha d labels d

pub record IsLeastOddWalk (n : ℕ) (alpha : ℕ → ℕ → ℕ) (d : ℕ) (labels : List ℕ) : Type 0 where
  pub walk : IsOddWalk n alpha d labels
  pub least : (others : List ℕ) → IsOddWalk n alpha d others → IsSmallerPath others labels → ⊥

-- ---- the answer

-- the first component, by least darts, that has no two colours, and what shows it
pub record IsFirstOdd (map : Map) (start : ℕ) (labels : List ℕ) : Type 0 where
  pub lead : IsComponentLead map start
  pub none : HasColoursAt map start → ⊥
  pub earlier : (d : ℕ) → IsComponentLead map d → d < start → HasColoursAt map d
  pub walk : IsLeastOddWalk (dimension map) map.alpha start labels

abbrev pub IsOrientation : Map → Orientation → Type 0
IsOrientation map (Two first) = AreOfFirstColour map first
IsOrientation map (Odd start labels) = IsFirstOdd map start labels
