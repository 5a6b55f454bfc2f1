pub mod Told
pub mod Lines
pub mod Loaded
pub mod Kept
pub mod Numbers
