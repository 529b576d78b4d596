-- The registers of a table, and its rows by register.
pub mod Registers
pub mod Grouped
