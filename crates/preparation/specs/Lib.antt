-- What is claimed of a screened register's prepared history and of its orders; the times of stamps.
pub mod Claims
pub mod Times
