-- The values that old darts get, listed and set.
pub mod AfterValues
pub mod ValuesInTurn
pub mod ValuesOfOrbits
