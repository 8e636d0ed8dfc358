-- The definitions of gm_run that no clause of `tool` rests on: Alike, Lines, Printing, Progress, Standing and Turns.
pub mod Alike
pub mod Lines
pub mod Printing
pub mod Progress
pub mod Standing
pub mod Turns
