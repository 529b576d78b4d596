-- The mark alone, and what it says.
pub mod Marks
