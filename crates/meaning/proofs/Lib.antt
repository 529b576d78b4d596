-- What the marks mean: the methods by their question, the outcomes by cases, demand 3, and what follows.
pub mod Methods
pub mod Outcomes
pub mod Demand
pub mod Corollaries
