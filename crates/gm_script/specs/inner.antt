-- The definitions of gm_script that no clause of `tool` rests on: Reading, Comparing, Faults, SoFar, Agreement and FirstRules.
pub mod Reading
pub mod Comparing
pub mod Faults
pub mod SoFar
pub mod Agreement
pub mod FirstRules
