-- The text from the numbers of its lines.
pub mod Lines
