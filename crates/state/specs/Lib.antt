pub mod Answers
pub mod Counts
pub mod Edits
pub mod Parts
pub mod Refusals
