pub mod Call
pub mod Layout
pub mod Read
pub mod Write
pub mod Size
pub mod Statements
pub mod Meaning
