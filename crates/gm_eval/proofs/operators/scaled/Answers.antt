use Rattle.std.proofs.Common.{FitsSigned, w64, ◌*ℤ◌, ◌∷◌, [], ap, ap₂, rules}
use Rattle.gm_model.specs.declared.value.Value.TheVariants as values
use Rattle.gm_eval.proofs.Casts.{exact}
use Rattle.gm_eval.proofs.Operated.{found_each, not_numeric, three}
use Rattle.gm_eval.proofs.operators.scaled.Goals as goal

pub returns-in-Int : goal.returns-in-Int
returns-in-Int c =
    let fits : FitsSigned w64 c.in-Int.x = search rules in
    let x = exact ◌*ℤ◌ c.args.number c.in-Int.x c.product.result c.ranges.number fits (record { sfits = c.product.type_inv }) c.product.ensures in
    found_each (λ u. c.args.number *ℤ u) c.args.value (values.Int c.in-Int.x) _ c.int.result c.in-Int.is (ap (λ u. u ∷ []) x) c.int.ensures

pub returns-in-Vec2 : goal.returns-in-Vec2
returns-in-Vec2 c =
    let at = c.in-Vec2 in
    let fits_x : FitsSigned w64 at.x = search rules in
    let fits_y : FitsSigned w64 at.y = search rules in
    let x = exact ◌*ℤ◌ c.args.number at.x c.product-in-Vec2.result c.ranges.number fits_x (record { sfits = c.product-in-Vec2.type_inv }) c.product-in-Vec2.ensures in
    let y = exact ◌*ℤ◌ c.args.number at.y c.product-in-Vec2-2.result c.ranges.number fits_y (record { sfits = c.product-in-Vec2-2.type_inv }) c.product-in-Vec2-2.ensures in
    found_each (λ u. c.args.number *ℤ u) c.args.value (values.Vec2 at.x at.y) _ c.vec2.result at.is (ap₂ (λ u v. u ∷ v ∷ []) x y) c.vec2.ensures

pub returns-in-Vec3 : goal.returns-in-Vec3
returns-in-Vec3 c =
    let at = c.in-Vec3 in
    let fits_x : FitsSigned w64 at.x = search rules in
    let fits_y : FitsSigned w64 at.y = search rules in
    let fits_z : FitsSigned w64 at.z = search rules in
    let x = exact ◌*ℤ◌ c.args.number at.x c.product-in-Vec3.result c.ranges.number fits_x (record { sfits = c.product-in-Vec3.type_inv }) c.product-in-Vec3.ensures in
    let y = exact ◌*ℤ◌ c.args.number at.y c.product-in-Vec3-2.result c.ranges.number fits_y (record { sfits = c.product-in-Vec3-2.type_inv }) c.product-in-Vec3-2.ensures in
    let z = exact ◌*ℤ◌ c.args.number at.z c.product-in-Vec3-3.result c.ranges.number fits_z (record { sfits = c.product-in-Vec3-3.type_inv }) c.product-in-Vec3-3.ensures in
    found_each (λ u. c.args.number *ℤ u) c.args.value (values.Vec3 at.x at.y at.z) _ c.vec3.result at.is (three _ _ _ _ _ _ x y z) c.vec3.ensures

pub unreachable-requires : goal.unreachable-requires
unreachable-requires c = not_numeric c.args.value c.in-Bool.is c.requires.kind
