pub mod Finishing
pub mod Executions
pub mod Keyrings
