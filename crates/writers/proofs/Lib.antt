-- The first element that passes a test, and the pass that finds each value's first write.
pub mod Seeking
pub mod Marking
