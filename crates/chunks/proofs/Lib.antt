-- The clusters of a chunk by position are in one of the orders that figure 4 lists.
pub mod Rising
pub mod Connect
pub mod Order
pub mod Around
