-- The first place of each key.
pub mod Firsts
