pub mod Columns
pub mod Pairs
