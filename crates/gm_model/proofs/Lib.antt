pub mod Padded
pub mod Entries
pub mod Exits
pub mod NodeSteps
pub mod Nodes
