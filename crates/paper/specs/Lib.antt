pub mod Paper
pub mod ServiceLife
