pub mod NameLemmas
pub mod FirstLemmas
pub mod RowLemmas
pub mod EmbeddedLemmas
pub mod CostLemmas
pub mod HoldingLemmas
pub mod ValueLemmas
pub mod CommuteLemmas
