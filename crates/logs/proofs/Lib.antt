-- A line's cells and the lines, one by one.
pub mod Decimals
pub mod Walking
pub mod Filling
pub mod Loading
pub mod Calls
