-- The code's test of an order is the definition's, and the orders that it tries are those of figure 4.
pub mod Following
pub mod Sequence
pub mod Turning
pub mod Offers
pub mod Trying
