pub mod Voices
pub mod Ticks
pub mod Models
pub mod Frames
pub mod Chips
pub mod Lists
pub mod Good
