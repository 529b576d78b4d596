-- The text from the zone list.
pub mod Lines
