-- A code depends on the sequence of a register's rows and not on their numbers.
pub mod Orders
pub mod Tests
pub mod Codes
pub mod Tables
