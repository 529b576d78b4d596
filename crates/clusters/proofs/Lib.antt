-- Clusters and their zones, and the zone method.
pub mod Clusters
pub mod Pass
pub mod One
