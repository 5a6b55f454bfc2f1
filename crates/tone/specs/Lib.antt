pub mod Phase
pub mod Taps
pub mod Shape
pub mod Noise
pub mod Pcm
pub mod Mix
pub mod Sides
pub mod Targets
