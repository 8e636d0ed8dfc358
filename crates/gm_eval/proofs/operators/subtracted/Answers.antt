use Rattle.std.proofs.Common.{FitsSigned, w64, ◌-ℤ◌, refl, rules}
use Rattle.gm_model.specs.declared.value.Value.TheVariants as values
use Rattle.gm_eval.proofs.Casts.{exactly}
use Rattle.gm_eval.proofs.Operated.{found_by_parts}
use Rattle.gm_eval.proofs.operators.subtracted.Goals as goal

pub returns-in-Int-Int : goal.returns-in-Int-Int
returns-in-Int-Int c =
    let at = c.in-Int-Int in
    let x_fits : FitsSigned w64 at.x = search rules in
    let a_fits : FitsSigned w64 at.a = search rules in
    let first = exactly ◌-ℤ◌ at.x at.a c.difference.result x_fits a_fits c.difference.ensures in
    found_by_parts ◌-ℤ◌ c.args.left c.args.right (values.Int at.x) (values.Int at.a) _ c.int_of.result at.is-0 at.is-1 refl (c.int_of.ensures _ first)

pub returns-in-Vec2-Vec2 : goal.returns-in-Vec2-Vec2
returns-in-Vec2-Vec2 c =
    let at = c.in-Vec2-Vec2 in
    let x_fits : FitsSigned w64 at.x = search rules in
    let a_fits : FitsSigned w64 at.a = search rules in
    let first = exactly ◌-ℤ◌ at.x at.a c.difference-in-Vec2-Vec2.result x_fits a_fits c.difference-in-Vec2-Vec2.ensures in
    let y_fits : FitsSigned w64 at.y = search rules in
    let b_fits : FitsSigned w64 at.b = search rules in
    let second = exactly ◌-ℤ◌ at.y at.b c.difference-in-Vec2-Vec2-2.result y_fits b_fits c.difference-in-Vec2-Vec2-2.ensures in
    found_by_parts ◌-ℤ◌ c.args.left c.args.right (values.Vec2 at.x at.y) (values.Vec2 at.a at.b) _ c.vec2_of.result at.is-0 at.is-1 refl (c.vec2_of.ensures _ _ first second)

pub returns-in-Vec3-Vec3 : goal.returns-in-Vec3-Vec3
returns-in-Vec3-Vec3 c =
    let at = c.in-Vec3-Vec3 in
    let x_fits : FitsSigned w64 at.x = search rules in
    let a_fits : FitsSigned w64 at.a = search rules in
    let first = exactly ◌-ℤ◌ at.x at.a c.difference-in-Vec3-Vec3.result x_fits a_fits c.difference-in-Vec3-Vec3.ensures in
    let y_fits : FitsSigned w64 at.y = search rules in
    let b_fits : FitsSigned w64 at.b = search rules in
    let second = exactly ◌-ℤ◌ at.y at.b c.difference-in-Vec3-Vec3-2.result y_fits b_fits c.difference-in-Vec3-Vec3-2.ensures in
    let z_fits : FitsSigned w64 at.z = search rules in
    let c_fits : FitsSigned w64 at.c = search rules in
    let third = exactly ◌-ℤ◌ at.z at.c c.difference-in-Vec3-Vec3-3.result z_fits c_fits c.difference-in-Vec3-Vec3-3.ensures in
    found_by_parts ◌-ℤ◌ c.args.left c.args.right (values.Vec3 at.x at.y at.z) (values.Vec3 at.a at.b at.c) _ c.vec3_of.result at.is-0 at.is-1 refl (c.vec3_of.ensures _ _ _ first second third)
