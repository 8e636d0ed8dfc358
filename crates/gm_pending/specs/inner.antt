-- The definitions of gm_pending that no clause of `tool` rests on: AskedOrbits, LabelPairs, Marks, ReachedDarts, Results and ValueSources.
pub mod AskedOrbits
pub mod LabelPairs
pub mod Marks
pub mod ReachedDarts
pub mod Results
pub mod ValueSources
