-- The definitions of gm_text that no clause of `tool` rests on: Cursor, Lexing, Machine, Nested, SchemaReading, SchemaAnswers, SchemaPrinting and Digits.
pub mod Cursor
pub mod Lexing
pub mod Machine
pub mod Nested
pub mod SchemaReading
pub mod SchemaAnswers
pub mod SchemaPrinting
pub mod Digits
