-- What one call for a list of registers writes and says, and what its steps leave.
pub mod Answers
pub mod Examined
