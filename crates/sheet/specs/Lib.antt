-- What the programs bench and exam print.
pub mod Sheet
pub mod Pages
