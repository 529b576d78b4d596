-- Lists, with tests that compute.
pub mod Lists
pub mod Sorts
pub mod Merges
pub mod Pairs
