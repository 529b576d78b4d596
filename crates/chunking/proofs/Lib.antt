-- The loops over the chunks' zones, and that what they leave is the definition's.
pub mod Keeping
pub mod Running
pub mod Hanging
pub mod Marking
pub mod Sides
pub mod Runs
pub mod Enclosing
pub mod Alone
