-- The laws of the freeing.
pub mod Listing
pub mod Dyeing
pub mod Painting
pub mod Topping
pub mod Freed
