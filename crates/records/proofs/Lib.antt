-- A number and its bytes, a record and its row: each from the other.
pub mod Numbers
pub mod Blocks
pub mod Storing
pub mod Offsets
pub mod Records
