-- What a prepared application tells of its result: its darts and its arcs.
pub mod CreationMatch
pub mod LeftNodes
pub mod MadeArcs
pub mod PreparedIsLawful
pub mod ResultDarts
pub mod SameSteps
pub mod SteadyArcs
