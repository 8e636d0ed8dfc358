-- What the laws use of a rule, its match and the names of new darts, over a scene.
use Rattle.std.proofs.Common.{◌≡◌, ℕ, ◌+◌, ◌<◌, ◌≤◌, ◌⊎◌, IsTrue, false}
use Rattle.gm_model.specs.declared.step.Step.TheVariants.{Exp, Imp}
use Rattle.gm_model.specs.GMap.{IsGMap}
use Rattle.gm_model.specs.Squares.{IsApart, Closes}
use Rattle.gm_model.specs.Unfolding.{Scene, IsStep, next_after}

module _ (scene : Scene) where
  -- p is a position, and x a node of the side
  abbrev pub IsLeftAt : ℕ → ℕ → Type 0
  IsLeftAt x p = IsTrue (scene.is_left x) × (p < scene.positions)

  abbrev pub IsRightAt : ℕ → ℕ → Type 0
  IsRightAt x p = IsTrue (scene.is_right x) × (p < scene.positions)

  -- the node is preserved, and its step at the label is the same on both sides
  pub record IsSteadyNode (x i : ℕ) : Type 0 where
    pub left : IsTrue (scene.is_left x)
    pub right : IsTrue (scene.is_right x)
    pub same : scene.left x i ≡ scene.right x i

  module _ (count width : ℕ) (label : ℕ → ℕ) where
    -- the rule
    pub record HasLawfulSteps : Type 0 where
      pub left_below : (x : ℕ) → IsTrue (scene.is_left x) → x < count
      pub right_below : (x : ℕ) → IsTrue (scene.is_right x) → x < count
      pub left_back : (x i y : ℕ) → IsTrue (scene.is_left x) → i ≤ scene.dimension → scene.left x i ≡ Exp y → IsTrue (scene.is_left y) × (scene.left y i ≡ Exp x)
      pub right_back : (x i y : ℕ) → IsTrue (scene.is_right x) → i ≤ scene.dimension → scene.right x i ≡ Exp y → IsTrue (scene.is_right y) × (scene.right y i ≡ Exp x)
      pub left_place : (x i m : ℕ) → IsTrue (scene.is_left x) → scene.left x i ≡ Imp m → m < width
      pub right_place : (x i m : ℕ) → IsTrue (scene.is_right x) → scene.right x i ≡ Imp m → m < width
      pub removed_whole : (x i : ℕ) → IsTrue (scene.is_left x) → scene.is_right x ≡ false → i ≤ scene.dimension → IsStep (scene.left x i)
      pub added_whole : (x i : ℕ) → scene.is_left x ≡ false → IsTrue (scene.is_right x) → i ≤ scene.dimension → IsStep (scene.right x i)
      pub left_then_right : (x i : ℕ) → IsTrue (scene.is_left x) → IsTrue (scene.is_right x) → i ≤ scene.dimension → IsStep (scene.left x i) → IsStep (scene.right x i)
      pub right_then_left : (x i : ℕ) → IsTrue (scene.is_left x) → IsTrue (scene.is_right x) → i ≤ scene.dimension → IsStep (scene.right x i) → IsStep (scene.left x i)
      pub squares : (x i j : ℕ) → IsTrue (scene.is_right x) → i + 2 ≤ j → j ≤ scene.dimension → (IsSteadyNode x i × IsSteadyNode x j) ⊎ Closes scene.right label x i j

    -- the positions
    pub record HasLawfulTurns : Type 0 where
      pub within : (p m : ℕ) → p < scene.positions → m < width → scene.turn p m < scene.positions
      pub twice : (p m : ℕ) → p < scene.positions → m < width → scene.turn (scene.turn p m) m ≡ p
      pub commute : (p m m' : ℕ) → p < scene.positions → m < width → m' < width → IsApart (label m) (label m') → scene.turn (scene.turn p m) m' ≡ scene.turn (scene.turn p m') m

  -- the match
  pub record HasLawfulDarts : Type 0 where
    pub live : (x p : ℕ) → IsLeftAt x p → IsTrue (scene.live (scene.dart_of x p))
    pub injective : (x p y q : ℕ) → IsLeftAt x p → IsLeftAt y q → scene.dart_of x p ≡ scene.dart_of y q → (x ≡ y) × (p ≡ q)
    pub links : (x p i y : ℕ) → IsLeftAt x p → i ≤ scene.dimension → scene.left x i ≡ Exp y → scene.alpha i (scene.dart_of x p) ≡ scene.dart_of y p
    pub letters : (x p i m : ℕ) → IsLeftAt x p → i ≤ scene.dimension → scene.left x i ≡ Imp m → scene.alpha i (scene.dart_of x p) ≡ scene.dart_of x (scene.turn p m)

  -- the names of the result
  pub record HasLawfulNames : Type 0 where
    pub kept : (x p : ℕ) → IsTrue (scene.is_left x) → scene.name_of x p ≡ scene.dart_of x p
    pub fresh : (x p : ℕ) → scene.is_left x ≡ false → IsRightAt x p → scene.live (scene.name_of x p) ≡ false
    pub differ : (x p y q : ℕ) → scene.is_left x ≡ false → scene.is_left y ≡ false → IsRightAt x p → IsRightAt y q → scene.name_of x p ≡ scene.name_of y q → (x ≡ y) × (p ≡ q)
    pub below : (x p : ℕ) → scene.is_left x ≡ false → IsRightAt x p → scene.name_of x p < next_after scene
    pub live_below : (d : ℕ) → IsTrue (scene.live d) → d < scene.next

  -- all of it, with the old map a generalised map
  pub record IsLawful (count width : ℕ) (label : ℕ → ℕ) : Type 0 where
    pub old : IsGMap scene.dimension (λ d. IsTrue (scene.live d)) scene.alpha
    pub steps : HasLawfulSteps count width label
    pub turns : HasLawfulTurns count width label
    pub darts : HasLawfulDarts
    pub names : HasLawfulNames
