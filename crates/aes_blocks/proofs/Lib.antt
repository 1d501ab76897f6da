pub mod Columns
pub mod TableCipher
