pub mod Search
pub mod Pairs
