-- What bytes say as a number, the lines of a text, and that what is printed is read back.
pub mod Values
pub mod Lines
pub mod Back
pub mod Examples
