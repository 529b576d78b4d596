-- The laws of the numbers of the report, and of the loop that writes them.
pub mod Entries
pub mod Answering
pub mod Telling
