pub mod Taking
pub mod Played
