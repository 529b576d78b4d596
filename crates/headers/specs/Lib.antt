-- The header of a log: its columns, and what the steps of its reading give.
pub mod Header
pub mod Steps
