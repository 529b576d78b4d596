-- The report from the summary.
pub mod Reporting
