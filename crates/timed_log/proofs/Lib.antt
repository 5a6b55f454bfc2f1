pub mod Judging
pub mod Puts
pub mod Found
pub mod Reaching
pub mod Turning
