-- The definitions of gm_expr that no clause of `tool` rests on: Whole and Writable.
pub mod Whole
pub mod Writable
