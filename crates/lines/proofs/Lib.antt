-- The laws of putting lines one behind the other, and how long they are.
pub mod Parts
pub mod Bounds
