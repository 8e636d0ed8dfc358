pub mod Flats
pub mod Counts
pub mod OneDart
pub mod Written
pub mod Sides
pub mod Ranges
pub mod Keep
pub mod Leads
pub mod Spans
pub mod Tellings
pub mod Entering
mod Sums
