-- What the definitions compute: the sequence of the tests, and three tables of cases.
pub mod Sequences
pub mod Calls
pub mod Cases
pub mod Further
pub mod Openings
