pub mod Headers
pub mod Samples
