pub mod Cases
pub mod Counters
pub mod Ctr
pub mod Groups
