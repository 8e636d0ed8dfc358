-- The definitions of gm_incident that no clause of `tool` rests on: Faults, Ranges, Reached and Words.
pub mod Faults
pub mod Ranges
pub mod Reached
pub mod Words
