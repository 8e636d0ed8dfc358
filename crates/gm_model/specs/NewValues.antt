-- Which instances decide the values of the result, and which values its darts have.
use Rattle.std.specs.Prelude.{◌≡◌, ℕ, ◌<◌, IsTrue}
use Rattle.gm_model.specs.declared.value.Value.{Value}
use Rattle.gm_model.specs.Components.{IsAssigned, IsKeeper}
use Rattle.gm_model.specs.Maps.{Map, IsDart}
use Rattle.gm_model.specs.Matches.{Placement}
use Rattle.gm_model.specs.Orbits.{Labels, IsInOrbit, IsPairBefore}
use Rattle.gm_model.specs.Rules.{Rule, is_added}
use Rattle.gm_model.specs.Unfolding.{name_in}

-- The old map, the rule and its placement; the neighbours of the unfolded map; an embedding's number, and the labels
-- of its type.
module _ (map : Map) (rule : Rule) (place : Placement) (alpha : ℕ → ℕ → ℕ) (e : ℕ) (o : Labels) where
  -- node x has an assignment to the embedding, and p is a position
  abbrev pub IsAssignedAt : ℕ → ℕ → Type 0
  IsAssignedAt x p = IsAssigned rule e x × (p < place.positions)

  -- the instance lies in the orbit of d in the unfolded map
  abbrev pub LiesIn : ℕ → ℕ → ℕ → Type 0
  LiesIn d x p = IsInOrbit alpha o d (name_in map rule place x p)

  -- the orbit of d has an assigned instance, and this is the least of them, by node and then by position
  pub record IsDecidedBy (d x p : ℕ) : Type 0 where
    pub assigned : IsAssignedAt x p
    pub lies : LiesIn d x p
    pub least : (y q : ℕ) → IsPairBefore y q x p → IsAssignedAt y q → LiesIn d y q → ⊥

  -- the instance decides an orbit, its own
  abbrev pub IsDeciding : ℕ → ℕ → Type 0
  IsDeciding x p = IsDecidedBy (name_in map rule place x p) x p

  abbrev pub IsUndecided : ℕ → Type 0
  IsUndecided d = (x p : ℕ) → IsAssignedAt x p → LiesIn d x p → ⊥

  -- d lies in an orbit with an assigned instance
  abbrev pub IsReached : ℕ → Type 0
  IsReached d = (x : ℕ) × (p : ℕ) × IsAssignedAt x p × LiesIn d x p

  -- The value of the embedding that a dart d of the result has, where the values of the deciding instances are given.
  -- Where its orbit is decided, it is the deciding instance's. Else an old dart keeps its value, and an added one has
  -- the old value of the least preserved node of its right component, at its position.
  pub data IsValueAfter (IsGiven : ℕ → ℕ → Value → Type 0) (d : ℕ) (v : Value) : Type 0 where
    Decided : (x p : ℕ) → IsDecidedBy d x p → IsGiven x p v → IsValueAfter IsGiven d v
    Kept : IsUndecided d → IsDart map d → v ≡ map.value e d → IsValueAfter IsGiven d v
    Added : (x p keeper : ℕ) → IsUndecided d → IsTrue (is_added rule x) → p < place.positions → d ≡ name_in map rule place x p → IsKeeper rule o x keeper → v ≡ map.value e (place.dart_of keeper p) → IsValueAfter IsGiven d v
