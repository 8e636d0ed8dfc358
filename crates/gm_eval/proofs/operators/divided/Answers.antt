use Rattle.std.proofs.Common.{rules, arith}
use Rattle.std.proofs.lemmas.Int.{ints}
use Rattle.gm_eval.proofs.Operated.{found_quotient}
use Rattle.gm_eval.proofs.operators.divided.Goals as goal

pub returns-in-Int : goal.returns-in-Int
returns-in-Int c = found_quotient c.args.left c.args.right c.in-Int.divisor c.quotients.result c.in-Int.is (λ e. c.if-divisor-ne0.true (omega (arith, ints))) (search rules)
