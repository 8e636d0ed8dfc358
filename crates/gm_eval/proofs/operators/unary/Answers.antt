use Rattle.gm_model.specs.declared.expr.UnOp.TheVariants as ops
use Rattle.gm_eval.proofs.Operated.{by_unary, by_either}
use Rattle.gm_eval.proofs.operators.unary.Goals as goal

pub returns-in-Not : goal.returns-in-Not
returns-in-Not c = by_unary c.args.op ops.Not c.args.part c.inverted.result c.in-Not.is c.inverted.ensures

pub returns-in-X : goal.returns-in-X
returns-in-X c = by_either c.args.op ops.X ops.Red c.args.part c.first.result c.in-X.is c.first.ensures c.first.ensures

pub returns-in-Y : goal.returns-in-Y
returns-in-Y c = by_either c.args.op ops.Y ops.Green c.args.part c.second.result c.in-Y.is c.second.ensures c.second.ensures

pub returns-in-Z : goal.returns-in-Z
returns-in-Z c = by_either c.args.op ops.Z ops.Blue c.args.part c.third.result c.in-Z.is c.third.ensures c.third.ensures
