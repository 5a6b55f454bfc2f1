pub mod Lines
pub mod Unrolled
pub mod Unrolls
pub mod Turns
pub mod Ends
