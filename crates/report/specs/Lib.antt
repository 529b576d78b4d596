-- The report of a table.
pub mod Report
