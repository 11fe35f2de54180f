pub mod Outboxes
pub mod Inside
