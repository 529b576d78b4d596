-- The orders of a chunk that figure 4 lists, tried one by one.
pub mod Gives
pub mod Viable
pub mod Offered
