pub mod Sizes
pub mod Runs
pub mod Checks
pub mod Strided
pub mod Wholes
pub mod Accepted
pub mod Refused
pub mod Parts
