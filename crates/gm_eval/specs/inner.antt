-- The definitions of gm_eval that no clause of `tool` rests on: Keeping, Made, Places, Readers, Sharing and Sums.
pub mod Keeping
pub mod Made
pub mod Places
pub mod Readers
pub mod Sharing
pub mod Sums
