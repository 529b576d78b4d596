-- The text of a grid loads as the table of the grid, and so do its column-shuffled copies and the copy with the stamps as clock time.
pub mod Testing
pub mod Places
pub mod Cases
pub mod Rows
pub mod Grids
pub mod Shuffling
pub mod Room
pub mod Texts
pub mod Stamps
pub mod Clocked
