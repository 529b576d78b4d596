-- The entry's contract from those of the calls it makes.
pub mod Entry
