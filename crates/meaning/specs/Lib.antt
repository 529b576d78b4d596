-- What the marks mean: the outcomes by cases, and demand 3 as one record.
pub mod Marked
pub mod Demand
