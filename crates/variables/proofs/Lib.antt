pub mod Entries
pub mod Causes
pub mod Wholes
