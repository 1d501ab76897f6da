pub mod Marking
pub mod Distinct
pub mod Checking
pub mod Fresh
