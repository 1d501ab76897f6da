pub mod Bytes
pub mod Words
pub mod Blocks
pub mod Polynomials
