-- The invariants of the loops, with a law for each way through a turn, and that the columns are those of the prepared history.
pub mod Gathering
pub mod Cutting
pub mod Chained
pub mod Listed
pub mod Made
pub mod Sorted
pub mod Rising
pub mod Keying
pub mod Lent
