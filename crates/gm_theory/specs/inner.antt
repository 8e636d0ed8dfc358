-- The definitions of gm_theory that no clause of `tool` rests on: Examples, ExamplesOutcomes, OneMatch, Outcomes, Readings, Suited, Theorem and Values.
pub mod Examples
pub mod ExamplesOutcomes
pub mod OneMatch
pub mod Outcomes
pub mod Readings
pub mod Suited
pub mod Theorem
pub mod Values
