use Rattle.std.proofs.Common.{arith, ap}
use Rattle.gm_model.specs.declared.expr.Expr.{Expr}
use Rattle.gm_model.specs.Trees.{tree_of}
use Rattle.gm_expr.proofs.Sizes.{size}
use Rattle.gm_expr.proofs.kinds.+kind.Goals as goal

pub type_unary-type_expr-requires : goal.type_unary-type_expr-requires
type_unary-type_expr-requires t c = (omega (arith, c.decreases), tt)

pub type_unary-returns-in_err-type_expr : goal.type_unary-returns-in_err-type_expr
type_unary-returns-in_err-type_expr t c = rw (← c.in_err-type_expr.ensures) c.from_residual.ensures

pub type_unary-returns : goal.type_unary-returns
type_unary-returns t c = rw (← c.in_ok-type_expr.ensures) c.kind_of_unary.ensures

pub type_binary-type_expr-requires : goal.type_binary-type_expr-requires
type_binary-type_expr-requires t c = (omega (arith, c.decreases), tt)

pub type_binary-type_expr-requires-2 : goal.type_binary-type_expr-requires-2
type_binary-type_expr-requires-2 t c = (omega (arith, c.decreases), tt)

pub type_binary-returns-in_err-left : goal.type_binary-returns-in_err-left
type_binary-returns-in_err-left t c = rw (← c.in_err-left.ensures) c.from_residual.ensures

pub type_binary-returns-in_err-type_expr : goal.type_binary-returns-in_err-type_expr
type_binary-returns-in_err-type_expr t c = rw (← c.in_ok-left.ensures, ← c.in_err-type_expr.ensures) c.from_residual-in_err-type_expr.ensures

pub type_binary-returns : goal.type_binary-returns
type_binary-returns t c = rw (← c.in_ok-left.ensures, ← c.in_ok-type_expr.ensures) c.kind_of_binary.ensures

pub type_choice-type_expr-requires : goal.type_choice-type_expr-requires
type_choice-type_expr-requires t c = (omega (arith, c.decreases), tt)

pub type_choice-type_expr-requires-2 : goal.type_choice-type_expr-requires-2
type_choice-type_expr-requires-2 t c = (omega (arith, c.decreases), tt)

pub type_choice-type_expr-requires-3 : goal.type_choice-type_expr-requires-3
type_choice-type_expr-requires-3 t c = (omega (arith, c.decreases), tt)

pub type_choice-returns-in_err-condition : goal.type_choice-returns-in_err-condition
type_choice-returns-in_err-condition t c = rw (← c.in_err-condition.ensures) c.from_residual.ensures

pub type_choice-returns-in_err-then : goal.type_choice-returns-in_err-then
type_choice-returns-in_err-then t c = rw (← c.in_ok-condition.ensures, ← c.in_err-then.ensures) c.from_residual-in_err-then.ensures

pub type_choice-returns-in_err-type_expr : goal.type_choice-returns-in_err-type_expr
type_choice-returns-in_err-type_expr t c = rw (← c.in_ok-condition.ensures, ← c.in_ok-then.ensures, ← c.in_err-type_expr.ensures) c.from_residual-in_err-type_expr.ensures

pub type_choice-returns : goal.type_choice-returns
type_choice-returns t c = rw (← c.in_ok-condition.ensures, ← c.in_ok-then.ensures, ← c.in_ok-type_expr.ensures) c.kind_of_choice.ensures

pub type_pair-type_expr-requires : goal.type_pair-type_expr-requires
type_pair-type_expr-requires t c = (omega (arith, c.decreases), tt)

pub type_pair-type_expr-requires-2 : goal.type_pair-type_expr-requires-2
type_pair-type_expr-requires-2 t c = (omega (arith, c.decreases), tt)

pub type_pair-returns-in_err-x : goal.type_pair-returns-in_err-x
type_pair-returns-in_err-x t c = rw (← c.in_err-x.ensures) c.from_residual.ensures

pub type_pair-returns-in_err-type_expr : goal.type_pair-returns-in_err-type_expr
type_pair-returns-in_err-type_expr t c = rw (← c.in_ok-x.ensures, ← c.in_err-type_expr.ensures) c.from_residual-in_err-type_expr.ensures

pub type_pair-returns : goal.type_pair-returns
type_pair-returns t c = rw (← c.in_ok-x.ensures, ← c.in_ok-type_expr.ensures) c.kind_from_two.ensures

pub type_triple-type_expr-requires : goal.type_triple-type_expr-requires
type_triple-type_expr-requires t c = (omega (arith, c.decreases), tt)

pub type_triple-type_expr-requires-2 : goal.type_triple-type_expr-requires-2
type_triple-type_expr-requires-2 t c = (omega (arith, c.decreases), tt)

pub type_triple-type_expr-requires-3 : goal.type_triple-type_expr-requires-3
type_triple-type_expr-requires-3 t c = (omega (arith, c.decreases), tt)

pub type_triple-returns-in_err-first : goal.type_triple-returns-in_err-first
type_triple-returns-in_err-first t c = rw (← c.in_err-first.ensures) c.from_residual.ensures

pub type_triple-returns-in_err-second : goal.type_triple-returns-in_err-second
type_triple-returns-in_err-second t c = rw (← c.in_ok-first.ensures, ← c.in_err-second.ensures) c.from_residual-in_err-second.ensures

pub type_triple-returns-in_err-type_expr : goal.type_triple-returns-in_err-type_expr
type_triple-returns-in_err-type_expr t c = rw (← c.in_ok-first.ensures, ← c.in_ok-second.ensures, ← c.in_err-type_expr.ensures) c.from_residual-in_err-type_expr.ensures

pub type_triple-returns : goal.type_triple-returns
type_triple-returns t c = rw (← c.in_ok-first.ensures, ← c.in_ok-second.ensures, ← c.in_ok-type_expr.ensures) c.kind_from_three.ensures

pub type_expr-returns-in-Param : goal.type_expr-returns-in-Param
type_expr-returns-in-Param t c = rw c.in-Param.is c.param_kind.ensures

pub type_expr-returns-in-Field : goal.type_expr-returns-in-Field
type_expr-returns-in-Field t c = rw c.in-Field.is c.value_kind.ensures

pub type_expr-returns-in-Sum : goal.type_expr-returns-in-Sum
type_expr-returns-in-Sum t c = rw c.in-Sum.is c.type_sum.ensures

pub type_expr-returns-in-Unary : goal.type_expr-returns-in-Unary
type_expr-returns-in-Unary t c = rw (c.in-Unary.is, ← c.deref.ensures) c.type_unary.ensures

pub type_expr-type_unary-requires : goal.type_expr-type_unary-requires
type_expr-type_unary-requires t c = (omega (arith, c.decreases, ap (λ (e : Expr). size (tree_of e)) c.in-Unary.is, ap (λ (e : Expr). size (tree_of e)) c.deref.ensures), tt)

pub type_expr-returns-in-Binary : goal.type_expr-returns-in-Binary
type_expr-returns-in-Binary t c = rw (c.in-Binary.is, ← c.deref-in-Binary.ensures, ← c.deref-in-Binary-2.ensures) c.type_binary.ensures

pub type_expr-type_binary-requires : goal.type_expr-type_binary-requires
type_expr-type_binary-requires t c = (omega (arith, c.decreases, ap (λ (e : Expr). size (tree_of e)) c.in-Binary.is, ap (λ (e : Expr). size (tree_of e)) c.deref-in-Binary.ensures, ap (λ (e : Expr). size (tree_of e)) c.deref-in-Binary-2.ensures), tt)

pub type_expr-returns-in-If : goal.type_expr-returns-in-If
type_expr-returns-in-If t c = rw (c.in-If.is, ← c.deref-in-If.ensures, ← c.deref-in-If-2.ensures, ← c.deref-in-If-3.ensures) c.type_choice.ensures

pub type_expr-type_choice-requires : goal.type_expr-type_choice-requires
type_expr-type_choice-requires t c = (omega (arith, c.decreases, ap (λ (e : Expr). size (tree_of e)) c.in-If.is, ap (λ (e : Expr). size (tree_of e)) c.deref-in-If.ensures, ap (λ (e : Expr). size (tree_of e)) c.deref-in-If-2.ensures, ap (λ (e : Expr). size (tree_of e)) c.deref-in-If-3.ensures), tt)

pub type_expr-returns-in-MakeVec2 : goal.type_expr-returns-in-MakeVec2
type_expr-returns-in-MakeVec2 t c = rw (c.in-MakeVec2.is, ← c.deref-in-MakeVec2.ensures, ← c.deref-in-MakeVec2-2.ensures) c.type_pair.ensures

pub type_expr-type_pair-requires : goal.type_expr-type_pair-requires
type_expr-type_pair-requires t c = (omega (arith, c.decreases, ap (λ (e : Expr). size (tree_of e)) c.in-MakeVec2.is, ap (λ (e : Expr). size (tree_of e)) c.deref-in-MakeVec2.ensures, ap (λ (e : Expr). size (tree_of e)) c.deref-in-MakeVec2-2.ensures), tt)

pub type_expr-returns-in-MakeVec3 : goal.type_expr-returns-in-MakeVec3
type_expr-returns-in-MakeVec3 t c = rw (c.in-MakeVec3.is, ← c.deref-in-MakeVec3.ensures, ← c.deref-in-MakeVec3-2.ensures, ← c.deref-in-MakeVec3-3.ensures) c.type_triple.ensures

pub type_expr-type_triple-requires : goal.type_expr-type_triple-requires
type_expr-type_triple-requires t c = (omega (arith, c.decreases, ap (λ (e : Expr). size (tree_of e)) c.in-MakeVec3.is, ap (λ (e : Expr). size (tree_of e)) c.deref-in-MakeVec3.ensures, ap (λ (e : Expr). size (tree_of e)) c.deref-in-MakeVec3-2.ensures, ap (λ (e : Expr). size (tree_of e)) c.deref-in-MakeVec3-3.ensures), tt)

pub type_expr-returns-in-MakeRgb : goal.type_expr-returns-in-MakeRgb
type_expr-returns-in-MakeRgb t c = rw (c.in-MakeRgb.is, ← c.deref-in-MakeRgb.ensures, ← c.deref-in-MakeRgb-2.ensures, ← c.deref-in-MakeRgb-3.ensures) c.type_triple-in-MakeRgb.ensures

pub type_expr-type_triple-requires-in-MakeRgb : goal.type_expr-type_triple-requires-in-MakeRgb
type_expr-type_triple-requires-in-MakeRgb t c = (omega (arith, c.decreases, ap (λ (e : Expr). size (tree_of e)) c.in-MakeRgb.is, ap (λ (e : Expr). size (tree_of e)) c.deref-in-MakeRgb.ensures, ap (λ (e : Expr). size (tree_of e)) c.deref-in-MakeRgb-2.ensures, ap (λ (e : Expr). size (tree_of e)) c.deref-in-MakeRgb-3.ensures), tt)
