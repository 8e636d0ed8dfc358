-- The definitions of gm_tree that no clause of `tool` rests on: Building, Built, Small, Taking and FirstNames.
pub mod Building
pub mod Built
pub mod Small
pub mod Taking
pub mod FirstNames
