-- The definitions of gm_lines that no clause of `tool` rests on: Speaking and FaultLines.
pub mod Speaking
pub mod FaultLines
