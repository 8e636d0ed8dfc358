-- Which kind a value has, and which numbers a value of a kind may have.
use Rattle.std.specs.Prelude.{◌≡◌, ◌<◌, FitsSigned}
use Rattle.std.specs.Int.{w64}
use Rattle.gm_model.specs.declared.value.Kind.{Kind}
use Rattle.gm_model.specs.declared.value.Kind.TheVariants as kinds
use Rattle.gm_model.specs.declared.value.Value.{Value}
use Rattle.gm_model.specs.declared.value.Value.TheVariants.{Int, Bool, Vec2, Vec3, Rgb}

abbrev pub kind_of : Value → Kind
kind_of (Int n) = kinds.Int
kind_of (Bool b) = kinds.Bool
kind_of (Vec2 x y) = kinds.Vec2
kind_of (Vec3 x y z) = kinds.Vec3
kind_of (Rgb r g b) = kinds.Rgb

-- the numbers of a value lie in the range of its kind
abbrev pub IsInValueRange : Value → Type 0
IsInValueRange (Int x) = FitsSigned w64 x
IsInValueRange (Bool b) = Unit {0}
IsInValueRange (Vec2 x y) = FitsSigned w64 x × FitsSigned w64 y
IsInValueRange (Vec3 x y z) = FitsSigned w64 x × FitsSigned w64 y × FitsSigned w64 z
IsInValueRange (Rgb r g b) = (r < 256) × (g < 256) × (b < 256)

-- it has the kind, and its numbers lie in the kind's range
pub record IsValueOf (kind : Kind) (v : Value) : Type 0 where
  pub kind_is : kind_of v ≡ kind
  pub range : IsInValueRange v
