pub mod Lines
pub mod Refusals
pub mod Finding
pub mod Loads
