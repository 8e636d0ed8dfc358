use Rattle.std.proofs.Common.{FitsSigned, w64, ◌-ℤ◌, ◌*ℤ◌, ℤ, rules, arith}
use Rattle.std.proofs.lemmas.Int.{ints}
use Rattle.gm_model.specs.Expressions.{floor}
use Rattle.gm_eval.proofs.Casts.{exact}
use Rattle.gm_eval.proofs.Operated.{found_rest}
use Rattle.gm_eval.proofs.operators.rest.Goals as goal

pub returns-in-Int-Int : goal.returns-in-Int-Int
returns-in-Int-Int c =
    let at = c.in-Int-Int in
    let number_fits : FitsSigned w64 at.number = search rules in
    let divisor_fits : FitsSigned w64 at.divisor = search rules in
    let same = exact (λ (x : ℤ) (y : ℤ). x -ℤ (y *ℤ floor x y)) at.number at.divisor c.remainder.result number_fits divisor_fits (record { sfits = c.remainder.type_inv }) c.remainder.ensures in
    found_rest c.args.left c.args.right at.number at.divisor _ c.int.result at.is-0 at.is-1 (λ e. c.if-divisor-ne0.true (omega (arith, ints))) same c.int.ensures
