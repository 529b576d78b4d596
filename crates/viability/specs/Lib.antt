-- What the theorems about FZF say; FZF itself is defined in the crate of the methods.
pub mod Runs
pub mod Fzf
