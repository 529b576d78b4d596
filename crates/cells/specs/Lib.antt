-- Texts with separators: their parts, and what a part says.
pub mod Parts
pub mod Steps
pub mod Grids
