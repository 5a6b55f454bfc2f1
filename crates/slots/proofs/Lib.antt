pub mod Kept
pub mod Fits
pub mod Writes
pub mod Pokes
pub mod Loads
pub mod Ticks
pub mod Tables
pub mod Slots
