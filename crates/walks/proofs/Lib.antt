-- The theorems about LBT.
pub mod Epochs
pub mod Rounds
pub mod Complete
pub mod Sound
pub mod Trials
pub mod Decides
