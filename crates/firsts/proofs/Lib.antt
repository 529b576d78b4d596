-- The places by rising key, with a law for each way through a turn of the loops.
pub mod Places
