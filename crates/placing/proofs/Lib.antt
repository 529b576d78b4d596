-- The loops of a placing step, what a step says of the definitions, and the state before the first.
pub mod Moved
pub mod Adding
pub mod Passing
pub mod Linking
pub mod Stepping
pub mod Lates
pub mod Begun
