-- What the columns of a register's prepared history are.
pub mod Gathered
pub mod Rows
pub mod Writers
pub mod Finishes
pub mod Made
pub mod Falls
