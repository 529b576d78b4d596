-- What the theorems about LBT say; LBT itself is defined in the crate of the methods.
pub mod Lbt
