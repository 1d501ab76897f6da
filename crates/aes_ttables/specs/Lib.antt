pub mod Turned
pub mod Meaning
