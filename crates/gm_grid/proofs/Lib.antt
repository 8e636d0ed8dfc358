mod Worked
pub mod GridSchema
pub mod Stages
pub mod Finished
pub mod GridSound
pub mod GridFound
