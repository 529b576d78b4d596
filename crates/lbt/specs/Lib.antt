-- What an epoch and a round of the code say.
pub mod Epochs
pub mod Rounds
