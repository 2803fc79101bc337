pub mod Shift
