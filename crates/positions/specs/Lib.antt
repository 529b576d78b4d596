-- A prepared history in columns.
pub mod Places
pub mod Columns
pub mod View
