pub mod Ranges
pub mod Putting
pub mod Taking
pub mod Bounds
pub mod Good
pub mod Trip
pub mod Size
mod Examples
pub mod Numbers
