pub mod Sums
pub mod Entries
pub mod Outside
pub mod Only
pub mod Halfway
