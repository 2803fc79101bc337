pub mod Records
pub mod Sheet
pub mod Stored
pub mod Examples
