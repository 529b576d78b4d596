-- The laws of the two loops.
pub mod Walking
pub mod Hashing
