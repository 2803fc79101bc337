pub mod Closed
pub mod Bridge
pub mod Steps
