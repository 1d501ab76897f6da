pub mod Field
pub mod Examples
