-- What the theorems about clusters and the zone method say; both are defined in the crate of the methods.
pub mod Zones
pub mod Pass
