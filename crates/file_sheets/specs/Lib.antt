-- What the programs bench and exam print of a history file.
pub mod Files
