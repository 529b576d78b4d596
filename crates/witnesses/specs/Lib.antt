-- Prepared histories, orders of operations, and witnesses.
pub mod Histories
pub mod Orders
pub mod Witness
pub mod Decides
