pub mod Choices
pub mod Calls
pub mod Agreement
pub mod Examples
