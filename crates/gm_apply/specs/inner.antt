-- The definitions of gm_apply that no clause of `tool` rests on: Outcomes, Prepared, ReadOnce, Readings and Reads.
pub mod Outcomes
pub mod Prepared
pub mod ReadOnce
pub mod Readings
pub mod Reads
