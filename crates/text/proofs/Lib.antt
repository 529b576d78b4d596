-- Digits, lines, and writing a list part by part.
pub mod Digits
pub mod Joins
pub mod Putting
pub mod Examples
