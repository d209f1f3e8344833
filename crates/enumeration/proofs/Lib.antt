pub mod Stores
pub mod Blocks
pub mod Least
pub mod Laws
pub mod Onward
