use Rattle.std.proofs.Common.{◌≡◌, FitsSigned, w64, ℤ, neg_ℤ, ◌∷◌, [], ap, ap₂, ◌∙◌, rules}
use Rattle.std.specs.Int.{w128}
use Rattle.std.proofs.lemmas.Int.{to_z-of_z}
use Rattle.gm_model.specs.declared.value.Value.TheVariants as values
use Rattle.gm_eval.proofs.Casts.{kept, passed}
use Rattle.gm_eval.proofs.Operated.{found_each, not_numeric, three}
use Rattle.gm_eval.proofs.operators.negated.Goals as goal

opposite : (x r : ℤ) → FitsSigned w64 x → FitsSigned w128 r → r ≡ neg_ℤ (passed x) → kept r ≡ neg_ℤ x
opposite x r fits fits_r e = to_z-of_z w128 r fits_r ∙ e ∙ ap neg_ℤ (to_z-of_z w64 x fits)

pub returns-in-Int : goal.returns-in-Int
returns-in-Int c =
    let fits : FitsSigned w64 c.in-Int.x = search rules in
    let x = opposite c.in-Int.x c.opposite.result fits (record { sfits = c.opposite.type_inv }) c.opposite.ensures in
    found_each neg_ℤ c.args.part (values.Int c.in-Int.x) _ c.int.result c.in-Int.is (ap (λ u. u ∷ []) x) c.int.ensures

pub returns-in-Vec2 : goal.returns-in-Vec2
returns-in-Vec2 c =
    let at = c.in-Vec2 in
    let fits_x : FitsSigned w64 at.x = search rules in
    let fits_y : FitsSigned w64 at.y = search rules in
    let x = opposite at.x c.opposite-in-Vec2.result fits_x (record { sfits = c.opposite-in-Vec2.type_inv }) c.opposite-in-Vec2.ensures in
    let y = opposite at.y c.opposite-in-Vec2-2.result fits_y (record { sfits = c.opposite-in-Vec2-2.type_inv }) c.opposite-in-Vec2-2.ensures in
    found_each neg_ℤ c.args.part (values.Vec2 at.x at.y) _ c.vec2.result at.is (ap₂ (λ u v. u ∷ v ∷ []) x y) c.vec2.ensures

pub returns-in-Vec3 : goal.returns-in-Vec3
returns-in-Vec3 c =
    let at = c.in-Vec3 in
    let fits_x : FitsSigned w64 at.x = search rules in
    let fits_y : FitsSigned w64 at.y = search rules in
    let fits_z : FitsSigned w64 at.z = search rules in
    let x = opposite at.x c.opposite-in-Vec3.result fits_x (record { sfits = c.opposite-in-Vec3.type_inv }) c.opposite-in-Vec3.ensures in
    let y = opposite at.y c.opposite-in-Vec3-2.result fits_y (record { sfits = c.opposite-in-Vec3-2.type_inv }) c.opposite-in-Vec3-2.ensures in
    let z = opposite at.z c.opposite-in-Vec3-3.result fits_z (record { sfits = c.opposite-in-Vec3-3.type_inv }) c.opposite-in-Vec3-3.ensures in
    found_each neg_ℤ c.args.part (values.Vec3 at.x at.y at.z) _ c.vec3.result at.is (three _ _ _ _ _ _ x y z) c.vec3.ensures

pub unreachable-requires : goal.unreachable-requires
unreachable-requires c = not_numeric c.args.part c.in-Bool.is c.requires.kind
