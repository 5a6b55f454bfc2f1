pub mod Answers
pub mod Heads
pub mod Voices
