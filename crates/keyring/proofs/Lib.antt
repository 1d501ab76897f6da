pub mod Turns
pub mod Written
pub mod Calls
