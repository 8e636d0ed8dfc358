-- What was answered of each embedding and given to its instances, and the values that follow.
pub mod AnswersKept
pub mod OneMoreAnswer
pub mod OneValueGiven
pub mod ValuesOfDarts
