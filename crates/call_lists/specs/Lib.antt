pub mod Runs
pub mod Mixing
pub mod Texts
pub mod Calls
pub mod Seen
pub mod Second
