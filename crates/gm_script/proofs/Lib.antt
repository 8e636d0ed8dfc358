pub mod Agreement
mod Alike
pub mod AtLeast
mod Colours
mod Compared
mod Drafts
pub mod FirstFault
mod Grammar
mod Held
mod HeldStats
mod Hooks
mod Indices
mod Leads
mod Limits
mod Loop
mod NameLeads
mod OneForm
pub mod OneScript
mod Params
mod Script
mod Sights
mod SmallParts
mod Spelling
mod Stats
mod Steps
mod Tokens
pub mod Zipped
