-- What a program's list of row numbers is, whatever its file holds.
pub mod Listings
