pub mod LabelLemmas
pub mod MaskLemmas
pub mod TwiceLemmas
pub mod MapLemmas
pub mod SoundLemmas
pub mod BuildLemmas
mod StepLemmas
pub mod RuleLemmas
pub mod AcceptLemmas
pub mod ConditionLemmas
pub mod SquareLemmas
pub mod BookLemmas
pub mod MatchLemmas
pub mod ReadLemmas
pub mod SceneLemmas
pub mod DoneLemmas
pub mod RefusedLemmas
pub mod BudgetLemmas
