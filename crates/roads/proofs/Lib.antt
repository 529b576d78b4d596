-- That the answers are those of the marking call, and what they say.
pub mod Examining
pub mod Answering
