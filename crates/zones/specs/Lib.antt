-- The zones of a prepared history in columns.
pub mod Zones
