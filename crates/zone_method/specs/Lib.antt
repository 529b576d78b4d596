-- The decision from the zone list, and the laying of clusters.
pub mod Deciding
pub mod Lay
