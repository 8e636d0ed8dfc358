-- How tightly operators bind, and what level each place beside them asks for.
use Rattle.std.specs.Prelude.{ℕ}
use Rattle.gm_model.specs.declared.expr.BinOp.{BinOp}
use Rattle.gm_model.specs.declared.expr.BinOp.TheVariants as ops
use Rattle.gm_model.specs.declared.expr.UnOp.{UnOp}
use Rattle.gm_model.specs.declared.expr.UnOp.TheVariants as unary

-- ---- levels

-- `or` binds least, and then `and`, comparisons, sums and products
abbrev pub binary_level : BinOp → ℕ
binary_level ops.Or = 1
binary_level ops.And = 2
binary_level ops.Eq = 4
binary_level ops.Ne = 4
binary_level ops.Lt = 4
binary_level ops.Le = 4
binary_level ops.Gt = 4
binary_level ops.Ge = 4
binary_level ops.Add = 5
binary_level ops.Sub = 5
binary_level ops.Mul = 6
binary_level ops.Div = 6
binary_level ops.Rem = 6

-- `not` between `and` and comparisons, `-` after products; the others are functions
abbrev pub unary_level : UnOp → ℕ
unary_level unary.Not = 3
unary_level unary.Neg = 7
unary_level _ = 8

-- ---- the least level of each place

-- what stands in parentheses of a function may be anything
abbrev pub least_of_part : UnOp → ℕ
least_of_part unary.Not = 3
least_of_part unary.Neg = 7
least_of_part _ = 0

-- Chains go on to the left. A comparison is in no chain.
abbrev pub least_on_left : BinOp → ℕ
least_on_left ops.Or = 1
least_on_left ops.And = 2
least_on_left ops.Mul = 6
least_on_left ops.Div = 6
least_on_left ops.Rem = 6
least_on_left _ = 5

abbrev pub least_on_right : BinOp → ℕ
least_on_right ops.Or = 2
least_on_right ops.And = 3
least_on_right ops.Add = 6
least_on_right ops.Sub = 6
least_on_right ops.Mul = 7
least_on_right ops.Div = 7
least_on_right ops.Rem = 7
least_on_right _ = 5
