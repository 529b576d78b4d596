-- Logs with named columns: the table and the answer of a loading, column-shuffled copies, and stamps as clock time.
pub mod Logs
pub mod Grids
pub mod Shuffled
pub mod Stamps
