pub mod Offsets
pub mod Ring
pub mod Accepted
pub mod Ranges
pub mod Written
