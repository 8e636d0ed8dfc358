-- What the contracts of stores and sinks cite: Count, Saves and Store; `inner` has the rest.
pub mod Count
pub mod Saves
pub mod Store
pub mod inner
