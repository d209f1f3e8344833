pub mod Order
pub mod Waiting
