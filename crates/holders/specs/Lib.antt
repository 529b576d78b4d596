-- First places in buckets.
pub mod Buckets
