-- What is printed of a log.
pub mod Logs
