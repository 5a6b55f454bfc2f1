pub mod Values
pub mod Ending
