-- A chunk's clusters set free and shut again.
pub mod Marks
pub mod Freed
