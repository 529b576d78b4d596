-- Histories that differ in their row numbers alone.
pub mod Renumbered
