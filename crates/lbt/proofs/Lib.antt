-- The loops of LBT, and what they say of the definitions.
pub mod Answers
pub mod Running
pub mod Falls
pub mod Turning
pub mod Latest
pub mod Walking
