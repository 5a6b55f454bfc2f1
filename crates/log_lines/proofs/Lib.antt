pub mod Commas
pub mod Texts
pub mod Lengths
pub mod Long
pub mod Bytes
pub mod Narrow
