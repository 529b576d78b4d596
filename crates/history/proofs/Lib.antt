-- Laws of the definitions in specs/.
pub mod Operations
pub mod Rows
pub mod Searches
pub mod Refusals
pub mod Chains
pub mod Screened
