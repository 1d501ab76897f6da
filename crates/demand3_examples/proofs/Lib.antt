pub mod Inhabited
pub mod Counters
