-- What the joining finds is the definition's answer.
pub mod Merged
pub mod Chunks
pub mod Nexting
pub mod Joining
