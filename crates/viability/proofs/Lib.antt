-- FZF decides 2-atomicity.
pub mod Listed
pub mod Viable
pub mod Runs
pub mod Items
pub mod Two
