pub mod Choice
pub mod Packing
pub mod Streams
