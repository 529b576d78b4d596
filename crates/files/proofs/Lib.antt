-- Reading undoes writing, and writing undoes reading; the laws of the loops that read and write.
pub mod Filling
pub mod Measuring
pub mod Meeting
pub mod Passing
pub mod Walking
pub mod Calls
pub mod Undo
pub mod Cases
pub mod Loading
pub mod Longest
