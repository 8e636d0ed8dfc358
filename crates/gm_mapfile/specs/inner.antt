-- The definitions of gm_mapfile that no clause of `tool` rests on: Words, Draft, Rows, Building, Ordering, Faults, Answered and Printing.
pub mod Words
pub mod Draft
pub mod Rows
pub mod Building
pub mod Ordering
pub mod Faults
pub mod Answered
pub mod Printing
