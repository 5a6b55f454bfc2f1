pub mod Worlds
pub mod Applied
pub mod Logs
pub mod Steps
pub mod Runs
pub mod Parts
pub mod Batches
