-- Where the nodes of a rule lie in a map: the positions of an application, its turns, what a match is, and the one candidate for it.
use Rattle.std.specs.Prelude.{◌≡◌, ◌≢◌, ℕ, ◌<◌, ◌≤◌, ◌⊎◌, List, [], ◌∷◌, length, slice_get, slice_index, Some, IsTrue}
use Rattle.gm_model.specs.declared.rule.Side.TheVariants.{Left}
use Rattle.gm_model.specs.declared.step.Step.{Step}
use Rattle.gm_model.specs.declared.step.Step.TheVariants.{Absent, Exp, Imp}
use Rattle.gm_model.specs.Maps.{Map, IsDart, dimension}
use Rattle.gm_model.specs.Orbits.{IsPairBefore, IsWalk, follow}
use Rattle.gm_model.specs.Rules.{Rule, has_word, letters, step, first_hook, label_at, hook_label, width}
use Rattle.gm_model.specs.Structure.{Leads}

-- where an application's instances lie
pub record Placement : Type 0 where
  -- how many positions there are; they are counted from 0
  pub positions : ℕ
  -- the position to which a position turns at a place
  pub turn : ℕ → ℕ → ℕ
  -- the dart of a left node at a position
  pub dart_of : ℕ → ℕ → ℕ

-- ---- positions

-- the neighbour at a place of the first hook's word
abbrev pub along_hook : Map → Rule → ℕ → ℕ → ℕ
along_hook map rule d m = map.alpha (hook_label rule m) d

-- The positions are the places of the walk from the first hook dart along the first hook's word, and a position
-- turns to the place of its neighbour. A creation rule has one position, and no place to turn at.
pub data ArePositions (map : Map) (rule : Rule) (place : Placement) : List ℕ → List ℕ → Type 0 where
  Created : rule.hooks ≡ [] → place.positions ≡ 1 → ArePositions map rule place [] []
  Walked : (d : ℕ) (others walk : List ℕ) → IsDart map d → IsWalk (along_hook map rule) (width rule) d walk → place.positions ≡ length walk → ((p m : ℕ) → p < length walk → m < width rule → (place.turn p m < length walk) × (slice_index walk (place.turn p m) ≡ along_hook map rule (slice_index walk p) m)) → ArePositions map rule place (d ∷ others) walk

-- ---- a match

-- the darts of the step s of the left node x at label i and position p are those to which the map's neighbours lead
abbrev pub IsStepMet : (ℕ → ℕ → ℕ) → Placement → ℕ → ℕ → ℕ → Step → Type 0
IsStepMet alpha place x p i Absent = Unit {0}
IsStepMet alpha place x p i (Exp y) = (alpha i (place.dart_of x p) ≡ place.dart_of y p) × (alpha i (place.dart_of y p) ≡ place.dart_of x p)
IsStepMet alpha place x p i (Imp m) = alpha i (place.dart_of x p) ≡ place.dart_of x (place.turn p m)

abbrev pub IsMetAt : Map → Rule → Placement → ℕ → ℕ → ℕ → Type 0
IsMetAt map rule place x p i = IsStepMet map.alpha place x p i (step rule Left x i)

-- an instance: a left node and a position
abbrev pub IsInstance : Rule → Placement → ℕ → ℕ → Type 0
IsInstance rule place x p = IsTrue (has_word rule Left x) × (p < place.positions)

-- what holds of a match apart from its hooks
pub record IsEmbedding (map : Map) (rule : Rule) (place : Placement) : Type 0 where
  pub live : (x p : ℕ) → IsInstance rule place x p → IsDart map (place.dart_of x p)
  pub injective : (x p y q : ℕ) → IsInstance rule place x p → IsInstance rule place y q → place.dart_of x p ≡ place.dart_of y q → (x ≡ y) × (p ≡ q)
  pub steps : (x p i : ℕ) → IsInstance rule place x p → i ≤ dimension map → IsMetAt map rule place x p i

-- the first hook lies along the walk
abbrev pub IsHooked : Rule → Placement → List ℕ → Type 0
IsHooked rule place walk = (h p : ℕ) → first_hook rule ≡ Some h → p < place.positions → place.dart_of h p ≡ slice_index walk p

-- at position 0 each hook lies at its dart
abbrev pub LieAtDarts : Rule → List ℕ → Placement → Type 0
LieAtDarts rule hooks place = (t h d : ℕ) → slice_get rule.hooks t ≡ Some h → slice_get hooks t ≡ Some d → place.dart_of h 0 ≡ d

-- a match of the rule at these hook darts
pub record IsMatch (map : Map) (rule : Rule) (hooks : List ℕ) (place : Placement) : Type 0 where
  -- a dart for each hook
  pub count : length hooks ≡ length rule.hooks
  pub walk : List ℕ
  pub positions : ArePositions map rule place hooks walk
  pub hooked : IsHooked rule place walk
  pub at_darts : LieAtDarts rule hooks place
  pub embedded : IsEmbedding map rule place

-- ---- the candidate

-- position q turns at place m to position p, and no pair before (q, m) does
pub record IsFirstTurn (rule : Rule) (place : Placement) (p q m : ℕ) : Type 0 where
  pub position : q < place.positions
  pub within : m < width rule
  pub turns : place.turn q m ≡ p
  pub first : (q' m' : ℕ) → IsPairBefore q' m' q m → m' < width rule → place.turn q' m' ≢ p

-- The later hooks are walked in step with the first: where the walk reaches position p from position q at place m, such
-- a hook reaches p from q by its own letter at m.
abbrev pub GoInStep : Map → Rule → Placement → Type 0
GoInStep map rule place = (t h p q m : ℕ) → 0 < t → slice_get rule.hooks t ≡ Some h → 0 < p → p < place.positions → IsFirstTurn rule place p q m → place.dart_of h p ≡ map.alpha (label_at (letters rule Left h) m) (place.dart_of h q)

-- shorter, or as long and smaller at the first label that differs
abbrev pub IsSmallerPath : List ℕ → List ℕ → Type 0
IsSmallerPath [] [] = ⊥
IsSmallerPath [] (j ∷ path') = Unit {0}
IsSmallerPath (i ∷ path) [] = ⊥
IsSmallerPath (i ∷ path) (j ∷ path') = (length path < length path') ⊎ ((length path ≡ length path') × ((i < j) ⊎ ((i ≡ j) × IsSmallerPath path path')))

-- a smaller path, or the same from an earlier hook
abbrev pub IsPathBefore : List ℕ → ℕ → List ℕ → ℕ → Type 0
IsPathBefore path t path' t' = IsSmallerPath path path' ⊎ ((path ≡ path') × (t < t'))

-- the least path along which left links lead from a hook to x, and of one path from two hooks that from the earlier
pub record IsPathTo (rule : Rule) (x hook : ℕ) (path : List ℕ) : Type 0 where
  -- which of the hooks it is
  pub index : ℕ
  pub hook_at : slice_get rule.hooks index ≡ Some hook
  pub leads : Leads rule.left_links hook path x
  pub least : (t h : ℕ) (other : List ℕ) → slice_get rule.hooks t ≡ Some h → Leads rule.left_links h other x → IsPathBefore other t path index → ⊥

-- each left node lies where its path leads from its hook
abbrev pub IsForced : Map → Rule → Placement → Type 0
IsForced map rule place = (x p hook : ℕ) (path : List ℕ) → IsInstance rule place x p → IsPathTo rule x hook path → place.dart_of x p ≡ follow map.alpha path (place.dart_of hook p)

-- Where the nodes lie that a match forces. If there is a match at these hook darts, this is it; it need not be one.
pub record IsCandidate (map : Map) (rule : Rule) (hooks : List ℕ) (place : Placement) : Type 0 where
  -- a dart for each hook
  pub count : length hooks ≡ length rule.hooks
  pub walk : List ℕ
  pub positions : ArePositions map rule place hooks walk
  pub hooked : IsHooked rule place walk
  pub at_darts : LieAtDarts rule hooks place
  pub in_step : GoInStep map rule place
  pub forced : IsForced map rule place
