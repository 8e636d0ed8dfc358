-- The numbers of new darts, and the values that they get.
pub mod GivenValues
pub mod KeptValues
pub mod NodesInTurn
pub mod Numbers
pub mod ValuesOfKind
