pub mod ByKind
pub mod Carried
pub mod Edits
pub mod Ready
pub mod Refuses
pub mod Rest
pub mod Whole
