-- What the mark alone says, and that its list is never too short.
pub mod Places
pub mod Saying
