-- The definitions of gm_cells that clauses of `tool` rest on: Cells, CellsText and Colours; `inner` has the others.
pub mod Cells
pub mod CellsText
pub mod Colours
pub mod inner
