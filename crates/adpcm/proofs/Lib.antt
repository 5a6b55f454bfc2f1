pub mod Tables
pub mod Volume
pub mod Ima
pub mod Packed
