-- What the ranks of some rows are.
pub mod Ranked
