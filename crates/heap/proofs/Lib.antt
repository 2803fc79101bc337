pub mod Ranges
pub mod Bridge
