-- The definitions of gm_cycle that no clause of `tool` rests on: StepRows and NodeSquares.
pub mod StepRows
pub mod NodeSquares
