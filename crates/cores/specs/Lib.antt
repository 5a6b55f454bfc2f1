pub mod Sizes
pub mod Stems
