-- The definitions of gm_lines that clauses of `tool` rest on: BookFaults, ScriptFaults, Refusing and Checking; `inner` has the others.
pub mod BookFaults
pub mod ScriptFaults
pub mod Refusing
pub mod Checking
pub mod inner
