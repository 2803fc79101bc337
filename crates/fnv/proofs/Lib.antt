pub mod Append
pub mod Modulo
