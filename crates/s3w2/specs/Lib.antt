pub mod Answers
pub mod Refusals
pub mod Chips
pub mod Fresh
pub mod Ram
pub mod Channels
pub mod Registers
pub mod Marked
