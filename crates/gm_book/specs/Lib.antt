-- The definitions of gm_book that clauses of `tool` rest on: Canonical; `inner` has the others.
pub mod Canonical
pub mod inner
