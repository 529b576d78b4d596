-- The laws of positions, and of the operations at them.
pub mod Places
pub mod Once
pub mod Latest
pub mod Ops
pub mod OfHistory
