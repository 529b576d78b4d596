-- What the steps of loading give.
pub mod Steps
