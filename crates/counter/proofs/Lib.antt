pub mod Buffers
pub mod Tests
pub mod Calls
