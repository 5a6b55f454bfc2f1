pub mod Writing
pub mod Reading
pub mod RoundTrip
pub mod Loops
