pub mod Tests
pub mod Channels
pub mod FreshTicks
pub mod Resting
