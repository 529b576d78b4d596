-- One register of a history file: its records, and what reading their rows alone answers and leaves.
pub mod Selected
