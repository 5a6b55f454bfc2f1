pub mod Heard
pub mod Endings
