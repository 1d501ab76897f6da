pub mod Records
pub mod Chains
pub mod Validity
pub mod Lookup
pub mod Add
