pub mod Links
pub mod Bridge
