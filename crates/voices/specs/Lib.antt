pub mod Addresses
pub mod Core
pub mod Actives
pub mod Writes
pub mod Reads
pub mod Accepted
pub mod Own
pub mod Lists
