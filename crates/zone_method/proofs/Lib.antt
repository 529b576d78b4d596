-- The zone list decides as the zone definition does, and the clusters by low end are the order.
pub mod Passing
pub mod Deciding
pub mod Laying
pub mod Found
pub mod Cases
