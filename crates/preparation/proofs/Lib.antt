-- From a screened register to its prepared history, with the same orders; and from orders of operations to orders of rows.
pub mod Lists
pub mod Ranks
pub mod Stamped
pub mod Timed
pub mod Sequence
pub mod Finish
pub mod Shorten
pub mod Counts
pub mod Rows
