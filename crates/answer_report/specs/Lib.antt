-- The text of the answers of a road.
pub mod Text
