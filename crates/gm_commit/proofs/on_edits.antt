-- Which slots edits touch.
pub mod SlotsTaken
