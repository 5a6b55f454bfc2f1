pub mod Gathering
pub mod Sounding
