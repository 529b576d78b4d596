-- The zone list, and what is made on the way.
pub mod ZoneList
pub mod Shown
pub mod Stamps
