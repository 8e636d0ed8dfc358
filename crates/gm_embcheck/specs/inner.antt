-- The definitions of gm_embcheck that no clause of `tool` rests on: Bounds, Faults, Firsts, Keepers, Leaders and NodeSets.
pub mod Bounds
pub mod Faults
pub mod Firsts
pub mod Keepers
pub mod Leaders
pub mod NodeSets
