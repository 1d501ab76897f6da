pub mod Field
pub mod Sbox
pub mod State
pub mod Sizes
pub mod Cipher
pub mod InvCipher
pub mod KeyExpansion
pub mod Aes
