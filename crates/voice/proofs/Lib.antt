pub mod Offsets
pub mod Tests
pub mod Keeps
pub mod Clears
pub mod StreamTicks
pub mod ServedTicks
pub mod Calls
pub mod OneTick
