pub mod Cover
pub mod Entries
