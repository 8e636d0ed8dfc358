-- The definitions of gmr that no clause of `tool` rests on: Seen.
pub mod Seen
