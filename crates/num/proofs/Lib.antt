pub mod Choice
pub mod Integers
pub mod Fit
pub mod Bytes
pub mod Bits
pub mod Tables
pub mod Lists
pub mod Sizes
