mod Lookups
mod Reading
mod Saving
mod Told
mod Walks
