pub mod Columns
pub mod Meaning
pub mod Tables
