-- The definitions of gm_parse that clauses of `tool` rest on: Levels, Forms, Spelling and Meaning; `inner` has the others.
pub mod Levels
pub mod Forms
pub mod Spelling
pub mod Meaning
pub mod inner
