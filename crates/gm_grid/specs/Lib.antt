-- The definitions of gm_grid that clauses of `tool` rest on: GridMap and GridBook; `inner` has the others.
pub mod GridMap
pub mod GridBook
pub mod inner
