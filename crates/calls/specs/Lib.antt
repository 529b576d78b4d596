-- What the exported calls leave.
pub mod Calls
