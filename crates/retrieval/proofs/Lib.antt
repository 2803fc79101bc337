pub mod Search
pub mod Steps
pub mod Bridge
