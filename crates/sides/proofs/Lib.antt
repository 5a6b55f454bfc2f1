pub mod Sums
pub mod Frames
pub mod Added
