pub mod Refused
pub mod Finds
pub mod Cases
pub mod Stated
pub mod Heard
