use Rattle.std.proofs.Common.{int_lt, int_le}
use Rattle.gm_model.specs.declared.expr.BinOp.TheVariants as ops
use Rattle.gm_eval.proofs.Operated.{by_binary, turned, as_equal, as_different}
use Rattle.gm_eval.proofs.operators.other.Goals as goal

pub returns-in-Mul : goal.returns-in-Mul
returns-in-Mul c = by_binary c.args.op ops.Mul c.args.parts.0 c.args.parts.1 c.multiplied.result c.in-Mul.is c.multiplied.ensures

pub returns-in-Rem : goal.returns-in-Rem
returns-in-Rem c = by_binary c.args.op ops.Rem c.args.parts.0 c.args.parts.1 c.rest.result c.in-Rem.is c.rest.ensures

pub returns-in-Lt : goal.returns-in-Lt
returns-in-Lt c = by_binary c.args.op ops.Lt c.args.parts.0 c.args.parts.1 c.less.result c.in-Lt.is c.less.ensures

pub returns-in-Le : goal.returns-in-Le
returns-in-Le c = by_binary c.args.op ops.Le c.args.parts.0 c.args.parts.1 c.at_most.result c.in-Le.is c.at_most.ensures

pub returns-in-And : goal.returns-in-And
returns-in-And c = by_binary c.args.op ops.And c.args.parts.0 c.args.parts.1 c.both.result c.in-And.is c.both.ensures

pub returns-in-Or : goal.returns-in-Or
returns-in-Or c = by_binary c.args.op ops.Or c.args.parts.0 c.args.parts.1 c.either.result c.in-Or.is c.either.ensures

pub returns-in-Gt : goal.returns-in-Gt
returns-in-Gt c = by_binary c.args.op ops.Gt c.args.parts.0 c.args.parts.1 c.less-in-Gt.result c.in-Gt.is (turned int_lt c.args.parts.0 c.args.parts.1 c.less-in-Gt.result c.less-in-Gt.ensures)

pub returns-in-Ge : goal.returns-in-Ge
returns-in-Ge c = by_binary c.args.op ops.Ge c.args.parts.0 c.args.parts.1 c.at_most-in-Ge.result c.in-Ge.is (turned int_le c.args.parts.0 c.args.parts.1 c.at_most-in-Ge.result c.at_most-in-Ge.ensures)

pub returns-in-Eq : goal.returns-in-Eq
returns-in-Eq c = as_equal c.args.op c.args.parts.0 c.args.parts.1 c.are_same.result c.in-Eq.is c.are_same.ensures

pub returns-in-Ne : goal.returns-in-Ne
returns-in-Ne c = as_different c.args.op c.args.parts.0 c.args.parts.1 c.are_same-in-Ne.result c.in-Ne.is c.are_same-in-Ne.ensures
