pub mod Steps
pub mod Rooms
pub mod Samples
