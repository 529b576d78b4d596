-- The order check accepts the valid k-atomic total orders of a screened register and no other list; only the register's rows count.
pub mod Positions
pub mod Exact
pub mod Same
pub mod Growing
pub mod Seen
pub mod Latest
pub mod Between
pub mod Far
pub mod NoRow
pub mod Chain
