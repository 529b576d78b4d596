-- The laws of the registers of a table, and of its rows by register.
pub mod Runs
pub mod Columns
pub mod Rows
pub mod Ascending
