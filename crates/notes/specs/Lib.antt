pub mod Pitches
