pub mod Accepting
pub mod Calls
pub mod Sounds
pub mod Made
pub mod Lines
pub mod Every
pub mod Listed
