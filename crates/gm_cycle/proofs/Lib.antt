pub mod Closing
pub mod Ends
pub mod Firsts
pub mod SameSteps
