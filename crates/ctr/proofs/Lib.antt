pub mod Halves
pub mod Masking
pub mod Groups
pub mod Keyed
