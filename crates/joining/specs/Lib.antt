-- What the joining of chunks and dangling clusters speaks of.
pub mod Merge
pub mod Next
pub mod Items
