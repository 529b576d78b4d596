-- The entry for a C host.
pub mod Host
