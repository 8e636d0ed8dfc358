-- The definitions of gm_plan that no clause of `tool` rests on: Changes, Collecting, Counts, InArena, Indices, Lookup, Paths, Placed, Plans, Refusals, Searches, Sources and Tested.
pub mod Changes
pub mod Collecting
pub mod Counts
pub mod InArena
pub mod Indices
pub mod Lookup
pub mod Paths
pub mod Placed
pub mod Plans
pub mod Refusals
pub mod Searches
pub mod Sources
pub mod Tested
