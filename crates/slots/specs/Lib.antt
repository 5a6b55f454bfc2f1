pub mod Slots
pub mod Ticks
pub mod Models
pub mod Good
