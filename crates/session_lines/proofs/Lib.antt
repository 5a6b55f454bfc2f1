pub mod Storing
pub mod Heads
pub mod Whole
pub mod Back
pub mod Inside
pub mod Session
pub mod Size
pub mod Taken
mod Examples
pub mod Told
