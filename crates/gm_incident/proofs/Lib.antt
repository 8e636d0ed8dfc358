pub mod Counted
pub mod Faulty
pub mod Hooks
pub mod InRange
pub mod Letters
pub mod Marks
pub mod Moved
