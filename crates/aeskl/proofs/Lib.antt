pub mod Openings
pub mod Ciphers
pub mod Wide
pub mod Registers
