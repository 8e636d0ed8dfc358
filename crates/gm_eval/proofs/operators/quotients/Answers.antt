use Rattle.std.proofs.Common.{FitsSigned, w64, refl, rules, sym, ◌∙◌}
use Rattle.std.proofs.lemmas.Int.{to_z-of_z}
use Rattle.gm_model.specs.declared.value.Value.TheVariants as values
use Rattle.gm_model.specs.Expressions.{floor}
use Rattle.gm_eval.proofs.Casts.{exactly}
use Rattle.gm_eval.proofs.Operated.{found_each, not_numeric}
use Rattle.gm_eval.proofs.operators.quotients.Goals as goal

pub returns-in-Int : goal.returns-in-Int
returns-in-Int c =
    let at = c.in-Int in
    let x_fits : FitsSigned w64 at.x = search rules in
    let x_is = exactly floor at.x c.args.divisor c.quotient.result x_fits c.ranges.divisor c.quotient.ensures in
    found_each (λ u. floor u c.args.divisor) c.args.value (values.Int at.x) _ c.int_of.result at.is refl (c.int_of.ensures _ x_is)

pub returns-in-Vec2 : goal.returns-in-Vec2
returns-in-Vec2 c =
    let at = c.in-Vec2 in
    let x_fits : FitsSigned w64 at.x = search rules in
    let x_is = exactly floor at.x c.args.divisor c.quotient-in-Vec2.result x_fits c.ranges.divisor c.quotient-in-Vec2.ensures in
    let y_fits : FitsSigned w64 at.y = search rules in
    let y_is = exactly floor at.y c.args.divisor c.quotient-in-Vec2-2.result y_fits c.ranges.divisor c.quotient-in-Vec2-2.ensures in
    found_each (λ u. floor u c.args.divisor) c.args.value (values.Vec2 at.x at.y) _ c.vec2_of.result at.is refl (c.vec2_of.ensures _ _ x_is y_is)

pub returns-in-Vec3 : goal.returns-in-Vec3
returns-in-Vec3 c =
    let at = c.in-Vec3 in
    let x_fits : FitsSigned w64 at.x = search rules in
    let x_is = exactly floor at.x c.args.divisor c.quotient-in-Vec3.result x_fits c.ranges.divisor c.quotient-in-Vec3.ensures in
    let y_fits : FitsSigned w64 at.y = search rules in
    let y_is = exactly floor at.y c.args.divisor c.quotient-in-Vec3-2.result y_fits c.ranges.divisor c.quotient-in-Vec3-2.ensures in
    let z_fits : FitsSigned w64 at.z = search rules in
    let z_is = exactly floor at.z c.args.divisor c.quotient-in-Vec3-3.result z_fits c.ranges.divisor c.quotient-in-Vec3-3.ensures in
    found_each (λ u. floor u c.args.divisor) c.args.value (values.Vec3 at.x at.y at.z) _ c.vec3_of.result at.is refl (c.vec3_of.ensures _ _ _ x_is y_is z_is)

pub unreachable-requires : goal.unreachable-requires
unreachable-requires c = not_numeric c.args.value c.in-Bool.is c.requires.kind

pub quotient-requires : goal.quotient-requires
quotient-requires c = record { divisor = λ e. c.requires.divisor (sym (to_z-of_z w64 c.args.divisor c.ranges.divisor) ∙ e) }
