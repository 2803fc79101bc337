pub mod Parts
pub mod Tests
