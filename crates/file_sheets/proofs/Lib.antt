-- How long the texts are.
pub mod Bounds
