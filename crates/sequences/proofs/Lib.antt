pub mod Ordered
pub mod Flat
pub mod Numbers
pub mod InScript
