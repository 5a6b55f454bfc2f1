pub mod Lines
pub mod Fresh
pub mod Cuts
pub mod Loads
pub mod Fed
pub mod Peaks
pub mod Parts
