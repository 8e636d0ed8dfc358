-- The definitions of gm_script that clauses of `tool` rest on: ScriptText; `inner` has the others.
pub mod ScriptText
pub mod inner
