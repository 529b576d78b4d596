-- The write of each row.
pub mod Writers
pub mod Marked
