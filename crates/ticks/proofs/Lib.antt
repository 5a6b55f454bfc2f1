pub mod Again
pub mod Waves
pub mod Pcms
pub mod Voices
pub mod Ranges
pub mod Sums
