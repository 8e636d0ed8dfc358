-- The definitions of gm_tool that clauses of `tool` rest on: Answer, RunAnswer, Migrating, OwnFiles, DualAnswer, GridAnswer, Program, Loads, Endings, MadeRuns, Tool, StepBounds, Seen and Headline; `inner` has the others.
pub mod Answer
pub mod RunAnswer
pub mod Migrating
pub mod OwnFiles
pub mod DualAnswer
pub mod GridAnswer
pub mod Program
pub mod Loads
pub mod Endings
pub mod MadeRuns
pub mod Tool
pub mod StepBounds
pub mod Seen
pub mod Headline
pub mod inner
