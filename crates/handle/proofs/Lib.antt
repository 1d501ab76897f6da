pub mod Examples
pub mod Wrap
pub mod Steps
pub mod Integrity
pub mod Aad
pub mod Opened
