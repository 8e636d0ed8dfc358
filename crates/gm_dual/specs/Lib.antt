-- The definitions of gm_dual that clauses of `tool` rest on: Duals; `inner` has the others.
pub mod Duals
pub mod inner
