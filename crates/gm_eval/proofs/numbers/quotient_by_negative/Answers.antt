use Rattle.std.proofs.Common.{◌≡◌, ap₂, subst, ◌∙◌}
use Rattle.std.specs.Int.{int_div_euclid, w128}
use Rattle.std.proofs.lemmas.Int.{to_z-of_z}
use Rattle.gm_model.specs.Expressions.{floor}
use Rattle.gm_eval.specs.inner.Made.{IsExact}
use Rattle.gm_eval.proofs.Casts.{opposite_is}
use Rattle.gm_eval.proofs.Floors.{floor_below}
use Rattle.gm_eval.proofs.numbers.quotient_by_negative.Goals as goal

pub returns : goal.returns
returns c =
    let at = c.div_euclid in
    let is : at.result ≡ floor c.args.number c.args.divisor = at.ensures ∙ ap₂ int_div_euclid (opposite_is c.args.number c.ranges.number) (opposite_is c.args.divisor c.ranges.divisor) ∙ floor_below c.args.number c.args.divisor c.requires.divisor in
    subst (IsExact c.narrowed.result) (to_z-of_z w128 at.result (record { sfits = at.type_inv }) ∙ is) c.narrowed.ensures
