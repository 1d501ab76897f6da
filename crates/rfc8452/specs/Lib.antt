pub mod Field
pub mod Polyval
