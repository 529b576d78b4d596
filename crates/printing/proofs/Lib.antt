-- The laws of texts in a lent buffer.
pub mod Writing
pub mod Filing
pub mod Lines
