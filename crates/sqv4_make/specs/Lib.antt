pub mod Lines
pub mod Making
