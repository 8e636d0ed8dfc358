-- The definitions of gm_arena that no clause of `tool` rests on: ArenaMap, ArenaAsMap, Lawful, InOrder, Parts, Lines, Edits, Filled, Inside and Listing.
pub mod ArenaMap
pub mod ArenaAsMap
pub mod Lawful
pub mod InOrder
pub mod Parts
pub mod Lines
pub mod Edits
pub mod Filled
pub mod Inside
pub mod Listing
