-- What value an expression has where it is read, if any, and how much of the map that reading takes.
use Rattle.std.specs.Prelude.{◌≡◌, ◌≢◌, ℕ, suc, zero, ◌+◌, ◌/◌, ◌⊎◌, ◌↔◌, ℤ, pos, negsuc, ◌+ℤ◌, ◌-ℤ◌, ◌*ℤ◌, neg_ℤ, ◌≤ℤ◌, int_lt, int_le, Bool, true, false, not, ◌&&◌, ◌||◌, ◌==◌, IsTrue, List, [], ◌∷◌, length, map, slice_get, Some}
use Rattle.gm_model.specs.declared.expr.BinOp.{BinOp}
use Rattle.gm_model.specs.declared.expr.BinOp.TheVariants as ops
use Rattle.gm_model.specs.declared.expr.DartTerm.{DartTerm}
use Rattle.gm_model.specs.declared.expr.UnOp.{UnOp}
use Rattle.gm_model.specs.declared.expr.UnOp.TheVariants as unary
use Rattle.gm_model.specs.declared.value.Kind.{Kind}
use Rattle.gm_model.specs.declared.value.Kind.TheVariants as kinds
use Rattle.gm_model.specs.declared.value.Value.{Value}
use Rattle.gm_model.specs.declared.value.Value.TheVariants as values
use Rattle.gm_model.specs.declared.word.Mask.{Mask}
use Rattle.gm_model.specs.Kinds.{sum_kind}
use Rattle.gm_model.specs.Labels.{has}
use Rattle.gm_model.specs.Maps.{Map}
use Rattle.gm_model.specs.Matches.{Placement}
use Rattle.gm_model.specs.Orbits.{follow, IsInOrbit, IsListOf, HasCount}
use Rattle.gm_model.specs.Trees.{Tree, Number, Truth, Param, Field, Same, Count, Sum, Least, Greatest, Unary, Binary, If, MakeVec2, MakeVec3, MakeRgb}
use Rattle.gm_model.specs.Values.{kind_of, IsValueOf}

-- ---- values and their components

-- a number has itself, a vector its two or three numbers, a colour its three; a truth has none
abbrev pub components : Value → List ℤ
components (values.Int x) = x ∷ []
components (values.Bool b) = []
components (values.Vec2 x y) = x ∷ y ∷ []
components (values.Vec3 x y z) = x ∷ y ∷ z ∷ []
components (values.Rgb r g b) = pos r ∷ pos g ∷ pos b ∷ []

-- v is the value of the kind with these components, which are in its range; a truth has none, and isn't made so
pub record IsMade (kind : Kind) (parts : List ℤ) (v : Value) : Type 0 where
  pub numbers : kind ≢ kinds.Bool
  pub is_value : IsValueOf kind v
  pub parts_are : components v ≡ parts

abbrev pub by_component : (ℤ → ℤ → ℤ) → List ℤ → List ℤ → List ℤ
by_component f [] ys = []
by_component f (x ∷ xs) [] = []
by_component f (x ∷ xs) (y ∷ ys) = f x y ∷ by_component f xs ys

-- the exact sum, component by component
abbrev pub total : List (List ℤ) → List ℤ
total [] = []
total (parts ∷ []) = parts
total (parts ∷ more ∷ others) = by_component ◌+ℤ◌ parts (total (more ∷ others))

-- the greatest whole number not above a / b, where b isn't 0
abbrev pub floor : ℤ → ℤ → ℤ
floor (pos a) (pos b) = pos (a / b)
floor (negsuc a) (pos b) = negsuc (a / b)
floor (pos zero) (negsuc b) = pos 0
floor (pos (suc a)) (negsuc b) = negsuc (a / suc b)
floor (negsuc a) (negsuc b) = pos (suc a / suc b)

-- ---- operators

-- the component at the place
abbrev pub IsComponent : ℕ → Value → Value → Type 0
IsComponent k a v = (x : ℤ) × (slice_get (components a) k ≡ Some x) × (v ≡ values.Int x)

abbrev pub IsUnary : UnOp → Value → Value → Type 0
IsUnary unary.Neg a v = IsMade (kind_of a) (map neg_ℤ (components a)) v
IsUnary unary.Not a v = (b : Bool) × (a ≡ values.Bool b) × (v ≡ values.Bool (not b))
IsUnary unary.X a v = IsComponent 0 a v
IsUnary unary.Y a v = IsComponent 1 a v
IsUnary unary.Z a v = IsComponent 2 a v
IsUnary unary.Red a v = IsComponent 0 a v
IsUnary unary.Green a v = IsComponent 1 a v
IsUnary unary.Blue a v = IsComponent 2 a v

-- b times the number x
abbrev pub IsScaled : ℤ → Value → Value → Type 0
IsScaled x b v = IsMade (kind_of b) (map (λ y. x *ℤ y) (components b)) v

abbrev pub IsProduct : Value → Value → Value → Type 0
IsProduct a b v = ((x : ℤ) × (a ≡ values.Int x) × IsScaled x b v) ⊎ ((y : ℤ) × (b ≡ values.Int y) × IsScaled y a v)

abbrev pub IsQuotient : Value → Value → Value → Type 0
IsQuotient a b v = (y : ℤ) × (b ≡ values.Int y) × (y ≢ pos 0) × IsMade (kind_of a) (map (λ x. floor x y) (components a)) v

abbrev pub IsRemainder : Value → Value → Value → Type 0
IsRemainder a b v = (x : ℤ) × (y : ℤ) × (a ≡ values.Int x) × (b ≡ values.Int y) × (y ≢ pos 0) × IsMade kinds.Int ((x -ℤ (y *ℤ floor x y)) ∷ []) v

-- the test of two numbers, of two truths
abbrev pub IsTest : (ℤ → ℤ → Bool) → Value → Value → Value → Type 0
IsTest test a b v = (x : ℤ) × (y : ℤ) × (a ≡ values.Int x) × (b ≡ values.Int y) × (v ≡ values.Bool (test x y))

abbrev pub IsLogic : (Bool → Bool → Bool) → Value → Value → Value → Type 0
IsLogic test a b v = (x : Bool) × (y : Bool) × (a ≡ values.Bool x) × (b ≡ values.Bool y) × (v ≡ values.Bool (test x y))

abbrev pub IsBinary : BinOp → Value → Value → Value → Type 0
IsBinary ops.Add a b v = IsMade (kind_of a) (by_component ◌+ℤ◌ (components a) (components b)) v
IsBinary ops.Sub a b v = IsMade (kind_of a) (by_component ◌-ℤ◌ (components a) (components b)) v
IsBinary ops.Mul a b v = IsProduct a b v
IsBinary ops.Div a b v = IsQuotient a b v
IsBinary ops.Rem a b v = IsRemainder a b v
IsBinary ops.Eq a b v = (r : Bool) × (v ≡ values.Bool r) × (IsTrue r ↔ (a ≡ b))
IsBinary ops.Ne a b v = (r : Bool) × (v ≡ values.Bool (not r)) × (IsTrue r ↔ (a ≡ b))
IsBinary ops.Lt a b v = IsTest int_lt a b v
IsBinary ops.Le a b v = IsTest int_le a b v
IsBinary ops.Gt a b v = IsTest (λ x y. int_lt y x) a b v
IsBinary ops.Ge a b v = IsTest (λ x y. int_le y x) a b v
IsBinary ops.And a b v = IsLogic ◌&&◌ a b v
IsBinary ops.Or a b v = IsLogic ◌||◌ a b v

-- ---- reading

-- where an expression is read: in a map, at a placement of the rule, at one position, with these parameters
pub record Reading : Type 0 where
  pub map : Map
  pub place : Placement
  pub position : ℕ
  pub params : List Value

module _ (reading : Reading) where
  abbrev pub dart_at : DartTerm → ℕ
  dart_at term = follow reading.map.alpha term.path (reading.place.dart_of term.node reading.position)

  -- d lies in the orbit of the term's dart
  abbrev pub IsCollected : Mask → DartTerm → ℕ → Type 0
  IsCollected mask term d = IsInOrbit reading.map.alpha (has mask) (dart_at term) d

  -- the exact sum over the darts of the orbit, each once
  abbrev pub IsSum : Mask → DartTerm → ℕ → Value → Type 0
  IsSum mask term e v = (darts : List ℕ) × IsListOf (IsCollected mask term) darts × (kind : Kind) × (sum_kind (kind_of (reading.map.value e (dart_at term))) ≡ Some kind) × IsMade kind (total (map (λ d. components (reading.map.value e d)) darts)) v

  -- the number of the embedding at some dart of the orbit, which goes before that at each
  abbrev pub IsFirstOf : (ℤ → ℤ → Type 0) → Mask → DartTerm → ℕ → Value → Type 0
  IsFirstOf before mask term e v = (x : ℤ) × (v ≡ values.Int x) × ((d : ℕ) × IsCollected mask term d × (reading.map.value e d ≡ v)) × ((d : ℕ) (y : ℤ) → IsCollected mask term d → reading.map.value e d ≡ values.Int y → before x y)

  -- the expression has this value there
  abbrev pub HasValue : Tree → Value → Type 0
  HasValue (Number n) v = IsMade kinds.Int (n ∷ []) v
  HasValue (Truth b) v = v ≡ values.Bool b
  HasValue (Param k) v = slice_get reading.params k ≡ Some v
  HasValue (Field d e) v = v ≡ reading.map.value e (dart_at d)
  HasValue (Same d d') v = v ≡ values.Bool (dart_at d == dart_at d')
  HasValue (Count o d) v = (count : ℕ) × HasCount (IsCollected o d) count × IsMade kinds.Int (pos count ∷ []) v
  HasValue (Sum o d e) v = IsSum o d e v
  HasValue (Least o d e) v = IsFirstOf ◌≤ℤ◌ o d e v
  HasValue (Greatest o d e) v = IsFirstOf (λ x y. y ≤ℤ x) o d e v
  HasValue (Unary op a) v = (x : Value) × HasValue a x × IsUnary op x v
  HasValue (Binary op a b) v = (x : Value) × (y : Value) × HasValue a x × HasValue b y × IsBinary op x y v
  HasValue (If c a b) v = (HasValue c (values.Bool true) × HasValue a v) ⊎ (HasValue c (values.Bool false) × HasValue b v)
  HasValue (MakeVec2 a b) v = (x : ℤ) × (y : ℤ) × HasValue a (values.Int x) × HasValue b (values.Int y) × IsMade kinds.Vec2 (x ∷ y ∷ []) v
  HasValue (MakeVec3 a b c) v = (x : ℤ) × (y : ℤ) × (z : ℤ) × HasValue a (values.Int x) × HasValue b (values.Int y) × HasValue c (values.Int z) × IsMade kinds.Vec3 (x ∷ y ∷ z ∷ []) v
  HasValue (MakeRgb a b c) v = (x : ℤ) × (y : ℤ) × (z : ℤ) × HasValue a (values.Int x) × HasValue b (values.Int y) × HasValue c (values.Int z) × IsMade kinds.Rgb (x ∷ y ∷ z ∷ []) v

  abbrev pub HasNoValue : Tree → Type 0
  HasNoValue tree = (v : Value) → HasValue tree v → ⊥

  -- ---- what a reading takes

  abbrev pub path_units : DartTerm → ℕ
  path_units term = length term.path

  -- this many path labels that the reading follows, fields that it reads and darts that it collects, all three together
  abbrev pub HasUnits : Tree → ℕ → Type 0
  HasUnits (Number n) u = u ≡ 0
  HasUnits (Truth b) u = u ≡ 0
  HasUnits (Param k) u = u ≡ 0
  HasUnits (Field d e) u = u ≡ path_units d + 1
  HasUnits (Same d d') u = u ≡ path_units d + path_units d'
  HasUnits (Count o d) u = (count : ℕ) × HasCount (IsCollected o d) count × (u ≡ path_units d + count)
  HasUnits (Sum o d e) u = (count : ℕ) × HasCount (IsCollected o d) count × (u ≡ path_units d + count)
  HasUnits (Least o d e) u = (count : ℕ) × HasCount (IsCollected o d) count × (u ≡ path_units d + count)
  HasUnits (Greatest o d e) u = (count : ℕ) × HasCount (IsCollected o d) count × (u ≡ path_units d + count)
  HasUnits (Unary op a) u = HasUnits a u
  HasUnits (Binary op a b) u = (s : ℕ) × (t : ℕ) × HasUnits a s × HasUnits b t × (u ≡ s + t)
  HasUnits (If c a b) u = (s : ℕ) × (t : ℕ) × HasUnits c s × ((HasValue c (values.Bool true) × HasUnits a t) ⊎ (HasValue c (values.Bool false) × HasUnits b t) ⊎ (HasNoValue c × (t ≡ 0))) × (u ≡ s + t)
  HasUnits (MakeVec2 a b) u = (s : ℕ) × (t : ℕ) × HasUnits a s × HasUnits b t × (u ≡ s + t)
  HasUnits (MakeVec3 a b c) u = (s : ℕ) × (t : ℕ) × (w : ℕ) × HasUnits a s × HasUnits b t × HasUnits c w × (u ≡ s + t + w)
  HasUnits (MakeRgb a b c) u = (s : ℕ) × (t : ℕ) × (w : ℕ) × HasUnits a s × HasUnits b t × HasUnits c w × (u ≡ s + t + w)
