-- The laws of the merging, and the columns of ranks.
pub mod ByRow
pub mod ByFinish
pub mod Merging
pub mod Ranking
