-- What the derived equality of values tells.
use Rattle.std.proofs.Common.{◌≡◌, Bool, true, rules}
use Rattle.std.proofs.lemmas.Bool.{false≢true}
use Rattle.gm_model.specs.declared.value.Value.{Value}
use Rattle.gm_model.specs.declared.value.Value.TheVariants.{Int, Bool as Truth, Vec2, Vec3, Rgb}
use Rattle.gm_model.specs.contracts.value.ValuePartialEq.TheImpl.{ghosts}

abbrev pub are_same : Value → Value → Bool
are_same a b = ghosts.eq a b

pub same_value : (a b : Value) → are_same a b ≡ true → a ≡ b
same_value (Int x) (Int u) is = search rules
same_value (Int x) (Truth u) is = absurd (false≢true is)
same_value (Int x) (Vec2 u v) is = absurd (false≢true is)
same_value (Int x) (Vec3 u v w) is = absurd (false≢true is)
same_value (Int x) (Rgb u v w) is = absurd (false≢true is)
same_value (Truth x) (Int u) is = absurd (false≢true is)
same_value (Truth x) (Truth u) is = search rules
same_value (Truth x) (Vec2 u v) is = absurd (false≢true is)
same_value (Truth x) (Vec3 u v w) is = absurd (false≢true is)
same_value (Truth x) (Rgb u v w) is = absurd (false≢true is)
same_value (Vec2 x y) (Int u) is = absurd (false≢true is)
same_value (Vec2 x y) (Truth u) is = absurd (false≢true is)
same_value (Vec2 x y) (Vec2 u v) is = search rules
same_value (Vec2 x y) (Vec3 u v w) is = absurd (false≢true is)
same_value (Vec2 x y) (Rgb u v w) is = absurd (false≢true is)
same_value (Vec3 x y z) (Int u) is = absurd (false≢true is)
same_value (Vec3 x y z) (Truth u) is = absurd (false≢true is)
same_value (Vec3 x y z) (Vec2 u v) is = absurd (false≢true is)
same_value (Vec3 x y z) (Vec3 u v w) is = search rules
same_value (Vec3 x y z) (Rgb u v w) is = absurd (false≢true is)
same_value (Rgb x y z) (Int u) is = absurd (false≢true is)
same_value (Rgb x y z) (Truth u) is = absurd (false≢true is)
same_value (Rgb x y z) (Vec2 u v) is = absurd (false≢true is)
same_value (Rgb x y z) (Vec3 u v w) is = absurd (false≢true is)
same_value (Rgb x y z) (Rgb u v w) is = search rules

pub same_told : (a b : Value) → a ≡ b → are_same a b ≡ true
same_told a b is = search rules
