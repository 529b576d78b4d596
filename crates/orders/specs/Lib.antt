-- What the order check looks for, in the words of its code.
pub mod Faults
