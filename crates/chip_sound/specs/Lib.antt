pub mod Sound
pub mod Both
pub mod Mixing
