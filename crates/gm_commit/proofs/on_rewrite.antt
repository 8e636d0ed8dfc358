-- The edits that a rule tells at its instances, and that they are those of the application.
pub mod EditsOfRule
pub mod EndsOfInstances
pub mod JoinedLists
pub mod NothingRemoved
pub mod RowsOfPlan
pub mod SlotTable
