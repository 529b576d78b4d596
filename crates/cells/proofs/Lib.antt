-- Where cells and lines end, and what a cell says, byte by byte.
pub mod Parting
pub mod Reading
pub mod Stamps
pub mod Grids
pub mod Joining
