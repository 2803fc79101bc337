pub mod Listing
pub mod Listed
