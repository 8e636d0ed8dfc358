use Rattle.gm_model.specs.declared.expr.BinOp.TheVariants as ops
use Rattle.gm_eval.proofs.Operated.{by_binary}
use Rattle.gm_eval.proofs.operators.most_met.Goals as goal

pub returns-in-Div : goal.returns-in-Div
returns-in-Div c = by_binary c.args.op ops.Div c.args.left c.args.right c.divided.result c.in-Div.is c.divided.ensures
