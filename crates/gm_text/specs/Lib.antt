-- The definitions of gm_text that clauses of `tool` rest on: ValueText and SchemaText; `inner` has the others.
pub mod ValueText
pub mod SchemaText
pub mod inner
