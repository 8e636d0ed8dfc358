-- The definitions of gm_grid that no clause of `tool` rests on: Building.
pub mod Building
