-- The zone list as text.
pub mod Text
