-- Decimal text: what is read.
pub mod Numbers
