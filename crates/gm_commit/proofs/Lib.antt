pub mod ListMembers
pub mod on_commit
pub mod on_edits
pub mod on_new_darts
pub mod on_old_darts
pub mod on_rewrite
