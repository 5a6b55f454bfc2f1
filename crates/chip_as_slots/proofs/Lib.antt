pub mod Rows
pub mod Puts
pub mod Stores
pub mod Answers
pub mod Ticks
pub mod Frames
pub mod Pairs
