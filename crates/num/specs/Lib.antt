pub mod Integers
pub mod Lists
pub mod Bytes
pub mod Bits
