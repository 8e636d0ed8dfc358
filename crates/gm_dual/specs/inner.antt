-- The definitions of gm_dual that no clause of `tool` rests on: Building.
pub mod Building
