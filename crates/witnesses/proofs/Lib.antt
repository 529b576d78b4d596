-- The theorems about orders of operations.
pub mod Runs
pub mod Places
pub mod Extremes
pub mod Parts
pub mod Positions
pub mod Near
pub mod Steps
pub mod Join
