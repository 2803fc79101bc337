pub mod Search
pub mod Narrow
