pub mod Stores
pub mod Freeing
pub mod Pinned
