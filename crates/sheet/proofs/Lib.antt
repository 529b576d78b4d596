-- The laws of putting parts one behind the other, how long they are, and the page that a marking call leaves.
pub mod Parts
pub mod Bounds
pub mod Making
pub mod Showing
