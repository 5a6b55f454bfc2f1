pub mod Lists
pub mod Sims
pub mod Frames
pub mod Calls
