use Rattle.std.proofs.Common.{arith}
use Rattle.gm_script.proofs.Params.{lengths_differ}
use Rattle.gm_script.proofs.values.fit.Goals as goal

pub returns-then-values-params-clause-unfit : goal.returns-then-values-params-clause-unfit
returns-then-values-params-clause-unfit c = λ _. lengths_differ c.args.params.now c.args.values.now (λ same. c.if-values-params.true (omega (arith, same)))
