pub mod Leaves
pub mod Calls
pub mod Exceptions
