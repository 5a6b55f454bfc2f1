pub mod Plays
pub mod Second
