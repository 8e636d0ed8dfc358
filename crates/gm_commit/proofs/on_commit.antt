-- What each stage of a commit leaves, and that the last one leaves the result.
pub mod AfterAdding
pub mod AfterArcs
pub mod AfterRemoval
pub mod ArcsAtOnce
pub mod ArcsOfStep
pub mod ResultLeft
pub mod StagesInArena
pub mod WholeDarts
pub mod WrittenSoFar
