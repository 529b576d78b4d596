-- Orders of a register by list positions, the anomalies that leave it without one, and the check of a given one.
pub mod Order
pub mod Anomalies
pub mod Check
