-- The zones by the columns are those of the clusters, and the writes by low end are those of the history.
pub mod Zone
pub mod LastStarts
pub mod Lows
pub mod ByLow
