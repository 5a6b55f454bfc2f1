pub mod Scores
pub mod Prints
pub mod Frames
