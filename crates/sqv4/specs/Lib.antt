pub mod Files
pub mod Decoding
pub mod Whole
