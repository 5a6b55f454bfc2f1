pub mod Refused
pub mod Cases
pub mod Fits
pub mod Queues
pub mod Ranges
pub mod Kept
pub mod Longer
pub mod Marked
