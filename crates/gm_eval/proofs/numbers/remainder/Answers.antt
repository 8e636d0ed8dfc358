use Rattle.std.proofs.Common.{◌≡◌, neg_ℤ, ap, ap₂, ◌∙◌, rules, FitsSigned, ◌-ℤ◌, ◌*ℤ◌, sym, subst}
use Rattle.std.specs.Int.{int_rem_euclid, w128}
use Rattle.gm_eval.proofs.Casts.{below, negated, opposite_is, above, kept, quotient_is, without_multiple}
use Rattle.gm_eval.proofs.Floors.{rest_below, rest_fits}
use Rattle.std.proofs.lemmas.Int.{to_z-of_z}
use Rattle.gm_model.specs.Expressions.{floor}
use Rattle.gm_eval.proofs.numbers.remainder.Goals as goal

pub returns-else-divisor-gt0 : goal.returns-else-divisor-gt0
returns-else-divisor-gt0 c =
    let at = c.rem_euclid in
    let fits = c.ranges.divisor in
    let parts : at.result ≡ int_rem_euclid (neg_ℤ c.args.number) (neg_ℤ c.args.divisor) = at.ensures.value ∙ ap₂ int_rem_euclid (opposite_is c.args.number c.ranges.number) (opposite_is c.args.divisor fits) in
    negated at.result (record { sfits = at.type_inv }) (search rules) ∙ ap neg_ℤ parts ∙ rest_below c.args.number c.args.divisor (below c.args.divisor fits c.requires.divisor c.if-divisor-gt0.false)

pub overflow_sub-result : goal.overflow_sub-result
overflow_sub-result c =
    let q = c.quotient_by_positive.result in
    let q_is = quotient_is floor c.args.number c.args.divisor q c.ranges.number c.ranges.divisor c.quotient_by_positive.ensures in
    let e = without_multiple c.args.number c.args.divisor q c.product.result c.ranges.number c.ranges.divisor (record { sfits = c.quotient_by_positive.type_inv }) (record { sfits = c.product.type_inv }) c.product.ensures ∙ ap (λ n. c.args.number -ℤ (c.args.divisor *ℤ n)) q_is in
    let fits = rest_fits c.args.number c.args.divisor (above c.args.divisor c.ranges.divisor c.if-divisor-gt0.true) c.ranges.divisor in
    subst (FitsSigned w128) (sym e) fits

pub returns-then-divisor-gt0 : goal.returns-then-divisor-gt0
returns-then-divisor-gt0 c =
    let q = c.quotient_by_positive.result in
    let q_is = quotient_is floor c.args.number c.args.divisor q c.ranges.number c.ranges.divisor c.quotient_by_positive.ensures in
    let e = without_multiple c.args.number c.args.divisor q c.product.result c.ranges.number c.ranges.divisor (record { sfits = c.quotient_by_positive.type_inv }) (record { sfits = c.product.type_inv }) c.product.ensures ∙ ap (λ n. c.args.number -ℤ (c.args.divisor *ℤ n)) q_is in
    let fits = rest_fits c.args.number c.args.divisor (above c.args.divisor c.ranges.divisor c.if-divisor-gt0.true) c.ranges.divisor in
    ap kept e ∙ to_z-of_z w128 _ fits
