-- The definitions of gm_parse that no clause of `tool` rests on: Reading, Answers, Taking and Tables.
pub mod Reading
pub mod Answers
pub mod Taking
pub mod Tables
