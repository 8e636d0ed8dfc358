-- The definitions of gm_match that no clause of `tool` rests on: Firsts, Layout, Outcome and Taken.
pub mod Firsts
pub mod Layout
pub mod Outcome
pub mod Taken
