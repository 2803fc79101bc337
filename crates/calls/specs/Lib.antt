pub mod Alone
pub mod Buffers
pub mod Entry
