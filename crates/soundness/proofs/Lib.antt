pub mod Blank
pub mod Rows
pub mod Differ
pub mod Seen
pub mod MapAndHeaps
pub mod Whole
