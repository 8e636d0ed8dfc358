-- The definitions of gm_walk that no clause of `tool` rests on: Room, Marks, Walks, Lent, Cells, Turns, Seen and Keys.
pub mod Room
pub mod Marks
pub mod Walks
pub mod Lent
pub mod Cells
pub mod Turns
pub mod Seen
pub mod Keys
