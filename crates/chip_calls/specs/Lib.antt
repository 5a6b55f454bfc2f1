pub mod Ties
pub mod Values
pub mod Code
pub mod Lists
