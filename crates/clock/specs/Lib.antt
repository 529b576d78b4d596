-- Stamps as clock time: what is written and what is read.
pub mod Clock
