-- Numbers as bytes, and the records of a file with the rows that they hold.
pub mod Records
