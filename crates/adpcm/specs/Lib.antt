pub mod Ima
pub mod Codes
