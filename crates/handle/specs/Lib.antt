pub mod Format
pub mod Wrap
