-- The loops, and what the tests of the rows leave of tests 1 to 9.
pub mod Loops
pub mod Fronts
pub mod Examined
