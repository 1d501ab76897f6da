pub mod Encryptions
