-- The definitions of gm_forms that clauses of `tool` rest on: BookText; `inner` has the others.
pub mod BookText
pub mod inner
