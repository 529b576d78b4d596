-- Decimal text: what is printed.
pub mod Decimal
