pub mod Choice
pub mod Lists
pub mod Table
pub mod Xor
pub mod Words
pub mod Blocks
pub mod Field
pub mod Runs
