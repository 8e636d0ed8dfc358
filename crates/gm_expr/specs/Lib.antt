-- The definitions of gm_expr that clauses of `tool` rest on: ExprText; `inner` has the others.
pub mod ExprText
pub mod inner
