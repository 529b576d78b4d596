-- What keeps a register from having an order.
pub mod Anomalies
