-- The numbers by the columns are the defined zone list, which shows each write once and decides 1-atomicity.
pub mod Comparing
pub mod Opening
pub mod Clusters
pub mod Walking
pub mod Listing
pub mod Timing
pub mod Showing
pub mod Calling
