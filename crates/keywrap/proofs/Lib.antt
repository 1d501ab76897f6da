pub mod Parts
pub mod Words
pub mod Sizes
pub mod Ends
pub mod Message
