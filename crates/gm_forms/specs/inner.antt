-- The definitions of gm_forms that no clause of `tool` rests on: Forms, Reading, Standing, Held and Values.
pub mod Forms
pub mod Reading
pub mod Standing
pub mod Held
pub mod Values
