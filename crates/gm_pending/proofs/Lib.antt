pub mod on_deciding
pub mod on_marks
pub mod on_pending
pub mod on_values
