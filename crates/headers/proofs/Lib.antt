-- The header's cells, one by one.
pub mod Heading
