-- The definitions of gm_tool that no clause of `tool` rests on: Refusals, Books, Replies, Stops and Begun.
pub mod Refusals
pub mod Books
pub mod Replies
pub mod Stops
pub mod Begun
