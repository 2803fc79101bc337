pub mod Edited
pub mod Lowered
pub mod Numbers
pub mod Parts
pub mod Rooms
pub mod Settled
pub mod Showing
pub mod Stores
