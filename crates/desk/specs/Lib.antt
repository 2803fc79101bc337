pub mod Decision
pub mod Desk
pub mod Results
pub mod Accuracy
pub mod Boundaries
