pub mod Address
pub mod Ranges
pub mod Decode
pub mod Fitting
