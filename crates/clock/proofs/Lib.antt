-- Clock texts: which of them are read, and that what is written is read back.
pub mod Days
pub mod Fields
pub mod Exact
pub mod Lengths
pub mod Forms
pub mod Reading
pub mod Writing
pub mod Examples
