-- The definitions of gm_undo that no clause of `tool` rests on: Kept, Flat, Layout, Keeping, Writing, Standing and Costs.
pub mod Kept
pub mod Flat
pub mod Layout
pub mod Keeping
pub mod Writing
pub mod Standing
pub mod Costs
