pub mod Versions
pub mod Spaces
pub mod Names
