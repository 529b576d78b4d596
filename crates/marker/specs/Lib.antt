-- What the functions of the marking call take and leave.
pub mod Called
pub mod Questions
