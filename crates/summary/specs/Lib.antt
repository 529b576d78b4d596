-- The numbers of the report.
pub mod Summary
