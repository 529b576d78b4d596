-- The methods, in the sequence of document 01: ranks for stamps, the prepared history, what a method places, zones, LBT, FZF, the marking call.
pub mod Extremes
pub mod Ranks
pub mod Prepared
pub mod Place
pub mod Zones
pub mod Lbt
pub mod Fzf
pub mod Mark
