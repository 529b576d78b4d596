-- The history and what is asked of it before any method runs, in the sequence of document 01.
pub mod Table
pub mod Answer
pub mod Sequences
pub mod Screen
