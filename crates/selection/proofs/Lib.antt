-- The pass over a file's records, what reading a register's rows alone answers, and what a caller knows afterwards.
pub mod Picking
pub mod Selecting
pub mod Loaded
