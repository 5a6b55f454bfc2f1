pub mod Ticking
pub mod Turning
pub mod Listing
pub mod Stored
pub mod Kept
