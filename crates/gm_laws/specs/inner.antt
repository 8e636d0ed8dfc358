-- The definitions of gm_laws that no clause of `tool` rests on: Darts, Faults and Holding.
pub mod Darts
pub mod Faults
pub mod Holding
