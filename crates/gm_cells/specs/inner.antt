-- The definitions of gm_cells that no clause of `tool` rests on: Ascending, OddStart, Painted and Search.
pub mod Ascending
pub mod OddStart
pub mod Painted
pub mod Search
