pub mod Behaviours
pub mod Events
pub mod Paper
pub mod Comings
pub mod Unretrieved
pub mod Schematic
pub mod ServiceLife
pub mod OwnHeapOnly
