pub mod Texts
pub mod Readings
pub mod Scripts
pub mod Examples
