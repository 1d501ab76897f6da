pub mod Halves
pub mod Packing
pub mod Reduction
pub mod Windows
pub mod Folding
