-- The definitions of gm_mapfile that clauses of `tool` rest on: MapText, MapFaults and MapReading; `inner` has the others.
pub mod MapText
pub mod MapFaults
pub mod MapReading
pub mod inner
