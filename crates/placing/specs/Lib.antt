-- The placing step in columns, and what a search answers.
pub mod Rules
pub mod States
pub mod Added
pub mod Scanned
pub mod Owned
pub mod Stepped
pub mod Searched
