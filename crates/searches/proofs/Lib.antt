-- The laws of the step from a search to the outcome.
pub mod Answering
