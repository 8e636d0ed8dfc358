mod Casts
pub mod Floors
pub mod Operated
pub mod Terms
pub mod OrbitWalks
pub mod Costs
pub mod Sums
pub mod Ready
pub mod Collected
pub mod Parts
pub mod Matched
pub mod Measures
pub mod Keeping
pub mod Sharing
pub mod Adding
