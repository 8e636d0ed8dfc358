-- The definitions of gm_model that no clause of `tool` rests on: Padded, Entries, NodeSteps and Collectors.
pub mod Padded
pub mod Entries
pub mod NodeSteps
pub mod Collectors
