-- Laws that the calls need.
pub mod Reading
